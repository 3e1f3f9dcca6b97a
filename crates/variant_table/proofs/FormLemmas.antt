-- The form of a line: skipped, a definition, the line of an entry or of a range, or none.
use Rattle.std.specs.Prelude.{◌&&◌, ◌||◌}
use Rattle.std.proofs.Common.{◌≡◌, ◌⊎◌, inl, inr, ℕ, Bool, true, false, cond, eqb, List, [], ◌∷◌, ◌++◌, Option, Some, None, Result, Ok, Err, refl, sym, ap, subst, ◌∙◌}
use Rattle.std.specs.List.{list_all, onto_first}
use Rattle.std.proofs.lemmas.Bool.{eqb-true, and_parts}
use Rattle.std.proofs.lemmas.List.{append-nil}
use Rattle.idn_text.specs.Points.{is_hex_digit, point_of_hex}
use Rattle.ruleset_text.specs.declared.keyword.Keyword.{Keyword}
use Rattle.ruleset_text.specs.Definition.{keyword_of}
use Rattle.ruleset_text.specs.Definitions.{Definitions}
use Rattle.ruleset_text.specs.Entries.{Mapped, EntryForm}
use Rattle.ruleset_text.specs.EntrySteps.{entry_in}
use Rattle.ruleset_text.specs.EntryText.{IsSequence, IsMapped, IsForm}
use Rattle.ruleset_text.specs.EntryWords.{Word, Point, Hyphen, Bar, AreWords, mark_words, sequence_words, last_words, type_words, condition_words, mapped_words, variants_words, entry_words, point_of}
use Rattle.ruleset_text.specs.Lexemes.{is_blank, is_joined, lexemes}
use Rattle.ruleset_text.specs.Tokens.{without_prefix}
use Rattle.ruleset_text.proofs.EntryExactLemmas.{entry_read, entry_spelled, one_form}
use Rattle.ruleset_text.proofs.EntryStopLemmas.{the_entry, no_form}
use Rattle.ruleset_text.specs.EntrySteps.{entry_read as what_is_read}
use Rattle.ruleset_text.specs.declared.fault.FaultPlace.{FaultPlace}
use Rattle.ruleset_text.proofs.HexLemmas.{hex_facts}
use Rattle.ruleset_text.proofs.SameNameLemmas.{other-no_keyword}
use Rattle.variant_table.specs.declared.version.Version.{Version}
use Rattle.variant_table.specs.declared.version.Version.TheVariants.{One, Two, Three}
use Rattle.variant_table.specs.Faults.{LineFault, Syntax}
use Rattle.variant_table.specs.DefinitionLines.{keyword_in, with_after}
use Rattle.variant_table.specs.Entries.{Entry, TableValue}
use Rattle.variant_table.specs.Forms.{parts_of, has_form, HasForm, entries_of, SpellsEntries}
use Rattle.variant_table.specs.Reading.{◌>>=◌, is_skipped, form_by, form_in, with_definition, with_form_of, with_line, with_words}
use Rattle.variant_table.specs.Texts.{AreBlanks, IsComment, HasSomeForm, LineSpells}

-- ---- skipped lines

skipped_step : (c : ℕ) (cs : List ℕ) (b : Bool) → is_blank c ≡ b → cond b (is_skipped cs) (eqb c 35) ≡ true → (is_skipped cs ≡ true → AreBlanks cs ⊎ IsComment cs) → AreBlanks (c ∷ cs) ⊎ IsComment (c ∷ cs)
skipped_step c cs true e h rest = elim (rest h) [ inl a ↦ inl (e, a) | inr k ↦ inr (c ∷ k.0, k.1, (e, k.2), ap (λ t. c ∷ t) k.3) ]
skipped_step c cs false e h rest = inr ([], cs, tt, ap (λ x. x ∷ cs) (eqb-true c 35 h))

-- what is skipped is blank or a comment
pub skipped_cases : (line : List ℕ) → is_skipped line ≡ true → AreBlanks line ⊎ IsComment line
skipped_cases [] h = inl tt
skipped_cases (c ∷ cs) h = skipped_step c cs (is_blank c) refl h (skipped_cases cs)

skipped_front : (blanks rest : List ℕ) → AreBlanks blanks → is_skipped (blanks ++ rest) ≡ is_skipped rest
skipped_front [] rest h = refl
skipped_front (c ∷ blanks) rest h = ap (λ b. cond b (is_skipped (blanks ++ rest)) (eqb c 35)) h.0 ∙ skipped_front blanks rest h.1

blank_skipped : (line : List ℕ) → AreBlanks line → is_skipped line ≡ true
blank_skipped [] h = refl
blank_skipped (c ∷ cs) h = ap (λ b. cond b (is_skipped cs) (eqb c 35)) h.0 ∙ blank_skipped cs h.1

comment_skipped : (line : List ℕ) → IsComment line → is_skipped line ≡ true
comment_skipped line k = ap is_skipped k.3 ∙ skipped_front k.0 (35 ∷ k.1) k.2

-- ---- skipped lines by their lexemes

-- no lexeme, or a first one that begins with this byte
abbrev begins : ℕ → List (List ℕ) → Bool
begins k [] = true
begins k ([] ∷ words) = false
begins k ((c ∷ cs) ∷ words) = eqb c k

-- no lexeme, or a first one that begins with '#'
abbrev skips : List (List ℕ) → Bool
skips = begins 35

skips_onto : (c : ℕ) (words : List (List ℕ)) → skips (onto_first c words) ≡ eqb c 35
skips_onto c [] = refl
skips_onto c (word ∷ words) = refl

skipped_word : (c : ℕ) (cs : List ℕ) (b j : Bool) → is_skipped cs ≡ skips (lexemes cs)
    → cond b (is_skipped cs) (eqb c 35) ≡ skips (cond b (lexemes cs) (cond j (onto_first c (lexemes cs)) ((c ∷ []) ∷ lexemes cs)))
skipped_word c cs true j rest = rest
skipped_word c cs false true rest = sym (skips_onto c (lexemes cs))
skipped_word c cs false false rest = refl

skipped_by_words : (line : List ℕ) → is_skipped line ≡ skips (lexemes line)
skipped_by_words [] = refl
skipped_by_words (c ∷ cs) = skipped_word c cs (is_blank c) (is_joined c cs) (skipped_by_words cs)

-- ---- the first word of an entry begins with '!', with 'U' or 'u', or with a digit

module _ (k : ℕ) (no_digit : is_hex_digit k ≡ false) (no_prefix : (eqb k 85 || eqb k 117) ≡ false) (no_mark : eqb 33 k ≡ false) where
  other_hex : (digits : List ℕ) (c : ℕ) (words : List (List ℕ)) → point_of_hex digits ≡ Some c → begins k (digits ∷ words) ≡ false
  other_hex [] c words e = refl
  other_hex (x ∷ xs) c words e = by_cases (eqb x k) refl
    where
      by_cases : (b : Bool) → eqb x k ≡ b → eqb x k ≡ false
      by_cases false f = f
      by_cases true f =
          let digit : is_hex_digit x ≡ true = (and_parts (is_hex_digit x) (list_all is_hex_digit xs) (hex_facts (x ∷ xs) c e).digit).0 in
          let both : true ≡ false = sym (ap is_hex_digit (sym (eqb-true x k f)) ∙ digit) ∙ no_digit in
          absurd cc

  other_point : (lexeme : List ℕ) (c : ℕ) (words : List (List ℕ)) → point_of lexeme ≡ Some c → begins k (lexeme ∷ words) ≡ false
  other_point [] c words e = refl
  other_point (x ∷ []) c words e = other_hex (x ∷ []) c words e
  other_point (x ∷ y ∷ ds) c words e = by_cases (eqb x k) refl
    where
      by_cases : (b : Bool) → eqb x k ≡ b → eqb x k ≡ false
      by_cases false f = f
      by_cases true f =
          let same : x ≡ k = eqb-true x k f in
          let none : (eqb x 85 || eqb x 117) ≡ false = ap (λ n. eqb n 85 || eqb n 117) same ∙ no_prefix in
          let whole : without_prefix (x ∷ y ∷ ds) ≡ x ∷ y ∷ ds = ap (λ b. cond (b && eqb y 43) ds (x ∷ y ∷ ds)) none in
          other_hex (x ∷ y ∷ ds) c words (sym (ap point_of_hex whole) ∙ e)

  other_first : (marked : Bool) (c : ℕ) (rest : List Word) (words : List (List ℕ)) → AreWords (mark_words marked ++ Point c ∷ rest) words → begins k words ≡ false
  other_first true c rest [] h = absurd h
  other_first true c rest (word ∷ words) h = ap (λ w. begins k (w ∷ words)) h.0 ∙ no_mark
  other_first false c rest [] h = absurd h
  other_first false c rest (word ∷ words) h = other_point word c words h.0

  -- words that begin with those of a source
  other_source : (marked : Bool) (points : List ℕ) (after rest : List Word) (words : List (List ℕ)) → IsSequence points
      → AreWords ((mark_words marked ++ (sequence_words points ++ after)) ++ rest) words → begins k words ≡ false
  other_source marked [] after rest words s w = absurd s
  other_source true (c ∷ []) after rest words s w = other_first true c (after ++ rest) words w
  other_source false (c ∷ []) after rest words s w = other_first false c (after ++ rest) words w
  other_source true (c ∷ d ∷ points) after rest words s w = other_first true c (Hyphen ∷ ((sequence_words (d ∷ points) ++ after) ++ rest)) words w
  other_source false (c ∷ d ∷ points) after rest words s w = other_first false c (Hyphen ∷ ((sequence_words (d ∷ points) ++ after) ++ rest)) words w

  other_mapped : (m : Mapped) (last : Option ℕ) (rest : List Word) (words : List (List ℕ)) → IsMapped m → AreWords (mapped_words m last ++ rest) words → begins k words ≡ false
  other_mapped m last rest words h w = other_source m.marked m.points (last_words last ++ (type_words m.type_name ++ condition_words m.condition)) rest words h.sequence w

  other_alone : (m : Mapped) (last : Option ℕ) (words : List (List ℕ)) → IsMapped m → AreWords (mapped_words m last) words → begins k words ≡ false
  other_alone m last words h w = other_mapped m last [] words h (subst (λ ws. AreWords ws words) (sym (append-nil (mapped_words m last))) w)

  other_entry : (mapped : List Mapped) (last : Option ℕ) (words : List (List ℕ)) → IsForm mapped last → AreWords (entry_words mapped last) words → begins k words ≡ false
  other_entry [] last words h w = absurd h
  other_entry (m ∷ []) None words h w = other_alone m None words h.0 w
  other_entry (m ∷ n ∷ mapped) None words h w = other_mapped m None (Bar ∷ variants_words (n ∷ mapped)) words h.0 w
  other_entry (m ∷ []) (Some c) words h w = other_alone m (Some c) words h.0 w
  other_entry (m ∷ n ∷ mapped) (Some c) words h w = absurd h

pub form-not_skipped : (v : Version) (line : List ℕ) (form : EntryForm) → HasForm v line form → is_skipped line ≡ false
form-not_skipped v line form h = skipped_by_words line ∙ other_entry 35 refl refl refl form.mapped form.last (lexemes line) h.0.0 h.0.1

-- ---- a definition begins with '%'

no_keyword : (word : List ℕ) (words : List (List ℕ)) → begins 37 (word ∷ words) ≡ false → keyword_of word ≡ None
no_keyword [] words h = refl
no_keyword (c ∷ cs) words h = other-no_keyword c cs h

none_in : (v : Version) (words : List (List ℕ)) → begins 37 words ≡ false → keyword_in v words ≡ None
none_in One words h = refl
none_in Two words h = refl
none_in Three [] h = refl
none_in Three (word ∷ words) h = ap (with_after words) (no_keyword word words h)

-- an entry is no definition
pub form-no_definition : (v : Version) (line : List ℕ) (form : EntryForm) → HasForm v line form → keyword_in v (lexemes line) ≡ None
form-no_definition v line form h = none_in v (lexemes line) (other_entry 37 refl refl refl form.mapped form.last (lexemes line) h.0.0 h.0.1)

skips_none : (v : Version) (words : List (List ℕ)) → skips words ≡ true → keyword_in v words ≡ None
skips_none One [] h = refl
skips_none Two [] h = refl
skips_none Three [] h = refl
skips_none v ([] ∷ words) h = absurd cc
skips_none v ((c ∷ cs) ∷ words) h = none_in v ((c ∷ cs) ∷ words) (ap (λ n. eqb n 37) (eqb-true c 35 h))

-- what is skipped is none, either
pub skipped-no_definition : (v : Version) (line : List ℕ) → is_skipped line ≡ true → keyword_in v (lexemes line) ≡ None
skipped-no_definition v line s = skips_none v (lexemes line) (sym (skipped_by_words line) ∙ s)

-- ---- a form is read, and what is read is the form

pub form_read : (v : Version) (line : List ℕ) (form : EntryForm) → HasForm v line form → form_in v (lexemes line) ≡ Ok form
form_read v line form h = ap (form_by v) (entry_read form line h.0) ∙ ap (λ b. cond b (Ok form) (Err Syntax)) h.1

same_forms : (a b : EntryForm) (r : Result EntryForm LineFault) → r ≡ Ok a → r ≡ Ok b → a ≡ b
same_forms a b r e f = cc

form_had : (v : Version) (line : List ℕ) (form other : EntryForm) (b : Bool) → entry_in (lexemes line) ≡ Some other → has_form v other ≡ b → cond b (Ok other) (Err Syntax) ≡ Ok form → HasForm v line form
form_had v line form other true e h is = subst (HasForm v line) (same_forms other form (Ok other) refl is) (entry_spelled other line e, h)
form_had v line form other false e h is = absurd cc

by_form : (v : Version) (line : List ℕ) (form : EntryForm) (o : Option EntryForm) → entry_in (lexemes line) ≡ o → form_by v o ≡ Ok form → HasForm v line form
by_form v line form None e is = absurd cc
by_form v line form (Some other) e is = form_had v line form other (has_form v other) e refl is

pub read_form : (v : Version) (line : List ℕ) (form : EntryForm) → form_in v (lexemes line) ≡ Ok form → HasForm v line form
read_form v line form e = by_form v line form (entry_in (lexemes line)) refl e

-- ---- the four forms

pub data Form (v : Version) (line : List ℕ) : Type 0 where
  skipped : is_skipped line ≡ true → Form v line
  defines : (keyword : Keyword) (after : List (List ℕ)) → is_skipped line ≡ false → keyword_in v (lexemes line) ≡ Some (keyword, after) → Form v line
  of_entries : (form : EntryForm) → HasForm v line form → Form v line
  formless : is_skipped line ≡ false → keyword_in v (lexemes line) ≡ None → ((form : EntryForm) → HasForm v line form → ⊥) → Form v line

form_step : (v : Version) (line : List ℕ) (r : Result EntryForm LineFault) → form_in v (lexemes line) ≡ r → is_skipped line ≡ false → keyword_in v (lexemes line) ≡ None → Form v line
form_step v line (Ok form) e s n = of_entries form (read_form v line form e)
form_step v line (Err f) e s n = formless s n (λ form h. (let a : form_in v (lexemes line) ≡ Ok form = form_read v line form h in cc))

form_or_none : (v : Version) (line : List ℕ) (o : Option (Keyword × List (List ℕ))) → keyword_in v (lexemes line) ≡ o → is_skipped line ≡ false → Form v line
form_or_none v line None n s = form_step v line (form_in v (lexemes line)) refl s n
form_or_none v line (Some (keyword, after)) n s = defines keyword after s n

pub form_of : (v : Version) (line : List ℕ) → Form v line
form_of v line = by_cases (is_skipped line) refl
  where
    by_cases : (b : Bool) → is_skipped line ≡ b → Form v line
    by_cases true e = skipped e
    by_cases false e = form_or_none v line (keyword_in v (lexemes line)) refl e

-- the only fault of lexemes is their syntax
syntax_form : (m : Bool) (form : EntryForm) (f : LineFault) → cond m (Ok form) (Err Syntax) ≡ Err f → f ≡ Syntax
syntax_form false form f e = cc
syntax_form true form f e = absurd cc

syntax_by : (v : Version) (o : Option EntryForm) (f : LineFault) → form_by v o ≡ Err f → f ≡ Syntax
syntax_by v None f e = cc
syntax_by v (Some form) f e = syntax_form (has_form v form) form f e

-- ---- what a line of each form adds

pub with_line-skipped : (t : TableValue) (line : List ℕ) → is_skipped line ≡ true → with_line t line ≡ Ok t
unfolding with_line
with_line-skipped t line s = ap (λ b. cond b (Ok t) (with_words t (keyword_in t.version (lexemes line)) (lexemes line))) s

with_line-words : (t : TableValue) (line : List ℕ) (o : Option (Keyword × List (List ℕ))) → is_skipped line ≡ false → keyword_in t.version (lexemes line) ≡ o → with_line t line ≡ with_words t o (lexemes line)
unfolding with_line
with_line-words t line o s n =
    ap (λ b. cond b (Ok t) (with_words t (keyword_in t.version (lexemes line)) (lexemes line))) s ∙ ap (λ o. with_words t o (lexemes line)) n

pub with_line-defines : (t : TableValue) (line : List ℕ) (keyword : Keyword) (after : List (List ℕ)) → is_skipped line ≡ false → keyword_in t.version (lexemes line) ≡ Some (keyword, after)
    → with_line t line ≡ with_definition t keyword after
with_line-defines t line keyword after s n = with_line-words t line (Some (keyword, after)) s n

pub with_line-plain : (t : TableValue) (line : List ℕ) → is_skipped line ≡ false → keyword_in t.version (lexemes line) ≡ None → with_line t line ≡ (form_in t.version (lexemes line) >>= with_form_of t)
with_line-plain t line s n = with_line-words t line None s n

pub with_line-form : (t : TableValue) (line : List ℕ) (form : EntryForm) → HasForm t.version line form → with_line t line ≡ with_form_of t form
with_line-form t line form h =
    with_line-plain t line (form-not_skipped t.version line form h) (form-no_definition t.version line form h)
    ∙ ap (λ r. r >>= with_form_of t) (form_read t.version line form h)

-- what has no form has a fault of syntax
pub formless_words : (v : Version) (line : List ℕ) → ((form : EntryForm) → HasForm v line form → ⊥) → form_in v (lexemes line) ≡ Err Syntax
formless_words v line none = by_result (form_in v (lexemes line)) refl
  where
    by_result : (r : Result EntryForm LineFault) → form_in v (lexemes line) ≡ r → form_in v (lexemes line) ≡ Err Syntax
    by_result (Ok form) e = absurd (none form (read_form v line form e))
    by_result (Err f) e = e ∙ ap (λ x. Err x) (syntax_by v (entry_in (lexemes line)) f e)

pub with_line-formless : (t : TableValue) (line : List ℕ) → is_skipped line ≡ false → keyword_in t.version (lexemes line) ≡ None → ((form : EntryForm) → HasForm t.version line form → ⊥) → with_line t line ≡ Err Syntax
with_line-formless t line s n none = with_line-plain t line s n ∙ ap (λ r. r >>= with_form_of t) (formless_words t.version line none)

-- a line of a form that the version doesn't have is none of the version
-- what is read of a line is its form
pub read_as : (v : Version) (line : List ℕ) (form : EntryForm) → what_is_read (parts_of v) line ≡ Ok form → HasForm v line form
read_as v line form e = (the_entry (parts_of v) line form).0 e

-- a line that stops being one has none
pub stops_before : (v : Version) (line : List ℕ) (place : FaultPlace) → what_is_read (parts_of v) line ≡ Err place → form_in v (lexemes line) ≡ Err Syntax
stops_before v line place e = formless_words v line (no_form (parts_of v) line place e)

-- it has one form at most
pub one_form_of : (v : Version) (line : List ℕ) (a b : EntryForm) → HasForm v line a → HasForm v line b → a ≡ b
one_form_of v line a b h k = one_form a b line h.0 k.0

-- ---- whether it has a form

pub some_form-skipped : (v : Version) (line : List ℕ) → is_skipped line ≡ true → HasSomeForm v line
some_form-skipped v line s = elim (skipped_cases line s) [ inl a ↦ inl a | inr k ↦ inr (inl k) ]

pub some_form-none : (v : Version) (line : List ℕ) → is_skipped line ≡ false → keyword_in v (lexemes line) ≡ None → ((form : EntryForm) → HasForm v line form → ⊥) → HasSomeForm v line → ⊥
some_form-none v line s n none (inl a) = let x : true ≡ false = sym (blank_skipped line a) ∙ s in cc
some_form-none v line s n none (inr (inl k)) = let x : true ≡ false = sym (comment_skipped line k) ∙ s in cc
some_form-none v line s n none (inr (inr (inl h))) = none h.0 h.1
some_form-none v line s n none (inr (inr (inr h))) = no_pair h.0 h.1 (sym n ∙ h.2)
  where
    no_pair : (keyword : Keyword) (after : List (List ℕ)) → (let o : Option (Keyword × List (List ℕ)) = None in o) ≡ Some (keyword, after) → ⊥
    no_pair keyword after e = cc

-- ---- the entries of a line

pub LineSpells-skipped : (v : Version) (d : Definitions) (line : List ℕ) → is_skipped line ≡ true → LineSpells v d line []
LineSpells-skipped v d line s = elim (skipped_cases line s) [ inl a ↦ inl (a, refl) | inr k ↦ inr (inl (k, refl)) ]

pub data Spelling (v : Version) (d : Definitions) (line : List ℕ) (entries : List Entry) : Type 0 where
  none : is_skipped line ≡ true → entries ≡ [] → Spelling v d line entries
  some : SpellsEntries v d line entries → Spelling v d line entries

pub spelling_of : (v : Version) (d : Definitions) (line : List ℕ) (entries : List Entry) → LineSpells v d line entries → Spelling v d line entries
spelling_of v d line entries (inl a) = none (blank_skipped line a.0) a.1
spelling_of v d line entries (inr (inl k)) = none (comment_skipped line k.0) k.1
spelling_of v d line entries (inr (inr h)) = some h

both_spelled : (v : Version) (d : Definitions) (line : List ℕ) (a b : List Entry) → SpellsEntries v d line a → SpellsEntries v d line b → a ≡ b
both_spelled v d line a b h k = h.3 ∙ ap (entries_of d) (one_form_of v line h.0 k.0 h.1 k.1) ∙ sym k.3

-- what is skipped spells nothing else
spelled-not_skipped : (v : Version) (d : Definitions) (line : List ℕ) (es : List Entry) → SpellsEntries v d line es → is_skipped line ≡ true → ⊥
spelled-not_skipped v d line es h s = let a : true ≡ false = sym s ∙ form-not_skipped v line h.0 h.1 in cc

-- a line spells one list of entries at most
pub one_line : (v : Version) (d : Definitions) (line : List ℕ) (a b : List Entry) → LineSpells v d line a → LineSpells v d line b → a ≡ b
one_line v d line a b h k = elim (spelling_of v d line a h) [
  | none s is ↦ elim (spelling_of v d line b k) [
    | none t also ↦ is ∙ sym also
    | some spelled ↦ absurd (spelled-not_skipped v d line b spelled s)
  ]
  | some spelled ↦ elim (spelling_of v d line b k) [
    | none t also ↦ absurd (spelled-not_skipped v d line a spelled t)
    | some other ↦ both_spelled v d line a b spelled other
  ]
]
