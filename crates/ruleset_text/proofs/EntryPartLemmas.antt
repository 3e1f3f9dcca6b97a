-- The lexemes of an entry or of a range that has only some parts.
use Rattle.std.proofs.Common.{◌≡◌, ℕ, Bool, true, false, not, ◌&&◌, ◌||◌, List, [], ◌∷◌, ◌++◌, Option, Some, None, refl, sym, ap, ◌∙◌, append_assoc, append-nil}
use Rattle.std.specs.Prelude.{is_some, codes}
use Rattle.std.specs.List.{AllByRecursion, list_all}
use Rattle.std.proofs.lemmas.Bool.{and_parts, not-false}
use Rattle.idn_text.specs.Points.{point_of_hex}
use Rattle.ruleset_text.specs.declared.named_condition.NamedCondition.{NamedCondition}
use Rattle.label_patterns.specs.declared.condition.ConditionKind.{ConditionKind}
use Rattle.label_patterns.specs.declared.condition.ConditionKind.TheVariants as condition
use Rattle.ruleset_text.specs.declared.entry_parts.EntryParts.{EntryParts}
use Rattle.ruleset_text.specs.declared.entry_reading.EntryWord.{EntryWord}
use Rattle.ruleset_text.specs.declared.entry_reading.EntryWord.TheVariants as word
use Rattle.ruleset_text.specs.Entries.{Mapped, EntryForm}
use Rattle.ruleset_text.specs.EntryParts.{is_within, has_parts}
use Rattle.ruleset_text.specs.EntryText.{IsSequence, IsMapped, IsForm, MayHaveType}
use Rattle.ruleset_text.specs.NamedConditions.{HasRule}
use Rattle.ruleset_text.specs.EntryWords as words
use Rattle.ruleset_text.specs.EntryWords.{Word, IsWord, AreWords, point_of, mark_words, sequence_words, last_words, type_words, kind_word, condition_words, mapped_words, variants_words, entry_words}
use Rattle.ruleset_text.specs.EntrySteps.{word_of, is_lacking}
use Rattle.ruleset_text.specs.Names.{is_name}
use Rattle.ruleset_text.proofs.EntryStateLemmas.{IsSpelled, spelled}

-- no lexeme is one of a part that is lacking
abbrev pub AllHad : EntryParts → Bool → List (List ℕ) → Type 0
AllHad parts first [] = Unit {0}
AllHad parts first (w ∷ ws) = (is_lacking parts first (word_of w) ≡ false) × AllHad parts false ws

-- ---- the same of words; of a name it is said whether it counts

abbrev marked_may : EntryParts → Bool → Bool
marked_may parts true = parts.invalid
marked_may parts false = parts.blocked

abbrev has_word : Bool → EntryParts → Bool → Word → Bool
has_word names parts first words.Mark = marked_may parts first
has_word names parts first words.Range = parts.ranges
has_word names parts first words.As = parts.named
has_word names parts first words.When = parts.named
has_word names parts first words.Unless = parts.named
has_word names parts first (words.TypeName name) = names || (parts.named && is_name name)
has_word names parts first (words.Rule name) = names || (parts.named && is_name name)
has_word names parts first x = true

abbrev have_words : Bool → EntryParts → Bool → List Word → Bool
have_words names parts first [] = true
have_words names parts first (x ∷ xs) = has_word names parts first x && have_words names parts false xs

-- a lexeme that names a code point is no other word
abbrev pub IsNoWord : EntryWord → Type 0
IsNoWord word.Other = Unit {0}
IsNoWord e = ⊥

no_point : (text w : List ℕ) (c : ℕ) → point_of text ≡ None → w ≡ text → point_of w ≡ Some c → ⊥
no_point text w c none is e = let bad : None ≡ Some c = sym none ∙ sym (ap point_of is) ∙ e in cc

pub point_word : (w : List ℕ) (c : ℕ) (e : EntryWord) → IsSpelled e w → point_of w ≡ Some c → IsNoWord e
unfolding point_of_hex
point_word w c word.Mark is e = no_point (codes "!") w c refl is e
point_word w c word.Hyphen is e = no_point (codes "-") w c refl is e
point_word w c word.Bar is e = no_point (codes "|") w c refl is e
point_word w c word.Colon is e = no_point (codes ":") w c refl is e
point_word w c word.Range is e = no_point (codes "..") w c refl is e
point_word w c word.As is e = no_point (codes "as") w c refl is e
point_word w c word.When is e = no_point (codes "when") w c refl is e
point_word w c word.Unless is e = no_point (codes "unless") w c refl is e
point_word w c word.Other is e = tt

pub no_word_lacking : (parts : EntryParts) (first : Bool) (e : EntryWord) → IsNoWord e → is_lacking parts first e ≡ false
no_word_lacking parts true word.Other is = refl
no_word_lacking parts false word.Other is = refl
no_word_lacking parts first word.Mark is = absurd is
no_word_lacking parts first word.Hyphen is = absurd is
no_word_lacking parts first word.Bar is = absurd is
no_word_lacking parts first word.Colon is = absurd is
no_word_lacking parts first word.Range is = absurd is
no_word_lacking parts first word.As is = absurd is
no_word_lacking parts first word.When is = absurd is
no_word_lacking parts first word.Unless is = absurd is

-- ---- words that are had are spelled by lexemes that are

spelled_as : (parts : EntryParts) (first : Bool) (text w : List ℕ) (b : Bool) → is_lacking parts first (word_of text) ≡ b → w ≡ text → is_lacking parts first (word_of w) ≡ b
spelled_as parts first text w b e is = ap (λ v. is_lacking parts first (word_of v)) is ∙ e

-- a name is no mark and no '..'
no_name : (text w : List ℕ) → is_name text ≡ false → w ≡ text → is_name w ≡ true → ⊥
no_name text w none is e = let bad : true ≡ false = sym e ∙ ap is_name is ∙ none in cc

pub name_kept : (parts : EntryParts) (first : Bool) (w : List ℕ) (e : EntryWord) → parts.named ≡ true → is_name w ≡ true → IsSpelled e w → is_lacking parts first e ≡ false
name_kept parts first w word.Mark named name is = absurd (no_name (codes "!") w refl is name)
name_kept parts first w word.Range named name is = absurd (no_name (codes "..") w refl is name)
name_kept parts true w word.As named name is = ap not named
name_kept parts false w word.As named name is = ap not named
name_kept parts true w word.When named name is = ap not named
name_kept parts false w word.When named name is = ap not named
name_kept parts true w word.Unless named name is = ap not named
name_kept parts false w word.Unless named name is = ap not named
name_kept parts true w word.Hyphen named name is = refl
name_kept parts false w word.Hyphen named name is = refl
name_kept parts true w word.Bar named name is = refl
name_kept parts false w word.Bar named name is = refl
name_kept parts true w word.Colon named name is = refl
name_kept parts false w word.Colon named name is = refl
name_kept parts true w word.Other named name is = refl
name_kept parts false w word.Other named name is = refl

word_kept : (parts : EntryParts) (first : Bool) (x : Word) (w : List ℕ) → has_word false parts first x ≡ true → IsWord x w → is_lacking parts first (word_of w) ≡ false
word_kept parts first (words.Point c) w had is = no_word_lacking parts first (word_of w) (point_word w c (word_of w) (spelled w) is)
word_kept parts first (words.TypeName name) w had is =
    let h = and_parts parts.named (is_name name) had in
    name_kept parts first w (word_of w) h.0 (ap is_name is ∙ h.1) (spelled w)
word_kept parts first (words.Rule name) w had is =
    let h = and_parts parts.named (is_name name) had in
    name_kept parts first w (word_of w) h.0 (ap is_name is ∙ h.1) (spelled w)
word_kept parts true words.Mark w had is = spelled_as parts true (codes "!") w false (ap not had) is
word_kept parts false words.Mark w had is = spelled_as parts false (codes "!") w false (ap not had) is
word_kept parts true words.Hyphen w had is = spelled_as parts true (codes "-") w false refl is
word_kept parts false words.Hyphen w had is = spelled_as parts false (codes "-") w false refl is
word_kept parts true words.Bar w had is = spelled_as parts true (codes "|") w false refl is
word_kept parts false words.Bar w had is = spelled_as parts false (codes "|") w false refl is
word_kept parts true words.Colon w had is = spelled_as parts true (codes ":") w false refl is
word_kept parts false words.Colon w had is = spelled_as parts false (codes ":") w false refl is
word_kept parts true words.Range w had is = spelled_as parts true (codes "..") w false (ap not had) is
word_kept parts false words.Range w had is = spelled_as parts false (codes "..") w false (ap not had) is
word_kept parts true words.As w had is = spelled_as parts true (codes "as") w false (ap not had) is
word_kept parts false words.As w had is = spelled_as parts false (codes "as") w false (ap not had) is
word_kept parts true words.When w had is = spelled_as parts true (codes "when") w false (ap not had) is
word_kept parts false words.When w had is = spelled_as parts false (codes "when") w false (ap not had) is
word_kept parts true words.Unless w had is = spelled_as parts true (codes "unless") w false (ap not had) is
word_kept parts false words.Unless w had is = spelled_as parts false (codes "unless") w false (ap not had) is

words_kept : (parts : EntryParts) (xs : List Word) (ws : List (List ℕ)) (first : Bool) → have_words false parts first xs ≡ true → AreWords xs ws → AllHad parts first ws
words_kept parts [] [] first had are = tt
words_kept parts [] (w ∷ ws) first had are = absurd are
words_kept parts (x ∷ xs) [] first had are = absurd are
words_kept parts (x ∷ xs) (w ∷ ws) first had are =
    let h = and_parts (has_word false parts first x) (have_words false parts false xs) had in
    (word_kept parts first x w h.0 are.0, words_kept parts xs ws false h.1 are.1)

-- ---- lexemes that are had spell words that are

lacking_of : (parts : EntryParts) (first : Bool) (text w : List ℕ) (b : Bool) → is_lacking parts first (word_of text) ≡ b → w ≡ text → is_lacking parts first (word_of w) ≡ false → b ≡ false
lacking_of parts first text w b e is had = sym (spelled_as parts first text w b e is) ∙ had

word_had : (parts : EntryParts) (first : Bool) (x : Word) (w : List ℕ) → is_lacking parts first (word_of w) ≡ false → IsWord x w → has_word true parts first x ≡ true
word_had parts true words.Mark w had is = not-false parts.invalid (lacking_of parts true (codes "!") w (not parts.invalid) refl is had)
word_had parts false words.Mark w had is = not-false parts.blocked (lacking_of parts false (codes "!") w (not parts.blocked) refl is had)
word_had parts true words.Range w had is = not-false parts.ranges (lacking_of parts true (codes "..") w (not parts.ranges) refl is had)
word_had parts false words.Range w had is = not-false parts.ranges (lacking_of parts false (codes "..") w (not parts.ranges) refl is had)
word_had parts true words.As w had is = not-false parts.named (lacking_of parts true (codes "as") w (not parts.named) refl is had)
word_had parts false words.As w had is = not-false parts.named (lacking_of parts false (codes "as") w (not parts.named) refl is had)
word_had parts true words.When w had is = not-false parts.named (lacking_of parts true (codes "when") w (not parts.named) refl is had)
word_had parts false words.When w had is = not-false parts.named (lacking_of parts false (codes "when") w (not parts.named) refl is had)
word_had parts true words.Unless w had is = not-false parts.named (lacking_of parts true (codes "unless") w (not parts.named) refl is had)
word_had parts false words.Unless w had is = not-false parts.named (lacking_of parts false (codes "unless") w (not parts.named) refl is had)
word_had parts first (words.TypeName name) w had is = refl
word_had parts first (words.Rule name) w had is = refl
word_had parts first (words.Point c) w had is = refl
word_had parts first words.Hyphen w had is = refl
word_had parts first words.Bar w had is = refl
word_had parts first words.Colon w had is = refl

words_had : (parts : EntryParts) (xs : List Word) (ws : List (List ℕ)) (first : Bool) → AllHad parts first ws → AreWords xs ws → have_words true parts first xs ≡ true
words_had parts [] ws first had are = refl
words_had parts (x ∷ xs) [] first had are = absurd are
words_had parts (x ∷ xs) (w ∷ ws) first had are = ap (λ b. b && have_words true parts false xs) (word_had parts first x w had.0 are.0) ∙ words_had parts xs ws false had.1 are.1

-- ---- the words of a form

module _ (n : Bool) (parts : EntryParts) where
  abbrev have : Bool → List Word → Bool
  have first xs = have_words n parts first xs

  true_after : (a b : Bool) → ((a || true) && b) ≡ b
  true_after true b = refl
  true_after false b = refl

  sequence_have : (points : List ℕ) (c : ℕ) (first : Bool) (rest : List Word) → have first (sequence_words (c ∷ points) ++ rest) ≡ have false rest
  sequence_have [] c first rest = refl
  sequence_have (d ∷ points) c first rest = sequence_have points d false rest

  last_have : (last : Option ℕ) (rest : List Word) → have false (last_words last ++ rest) ≡ ((parts.ranges || not (is_some last)) && have false rest)
  last_have None rest = ap (λ b. b && have false rest) (sym (or_true parts.ranges))
    where
      or_true : (b : Bool) → (b || true) ≡ true
      or_true true = refl
      or_true false = refl
  last_have (Some c) rest = ap (λ b. b && have false rest) (sym (or_false parts.ranges))
    where
      or_false : (b : Bool) → (b || false) ≡ b
      or_false true = refl
      or_false false = refl

  -- a name counts where names may stand
  name_have : (name : List ℕ) (rest : List Word) → parts.named ≡ true → is_name name ≡ true → have false (words.TypeName name ∷ rest) ≡ have false rest
  name_have name rest named is = ap (λ b. (n || b) && have false rest) (ap (λ b. b && is_name name) named ∙ is) ∙ true_after n (have false rest)

  type_have : (type_name : Option (List ℕ)) (marked : Bool) (rest : List Word) → MayHaveType marked type_name → have false (type_words type_name ++ rest) ≡ ((parts.named || not (is_some type_name)) && have false rest)
  type_have None marked rest may = sym (true_after parts.named (have false rest))
  type_have (Some name) marked rest may = by parts.named refl
    where
      by : (named : Bool) → parts.named ≡ named → (named && have false (words.TypeName name ∷ rest)) ≡ ((named || false) && have false rest)
      by true e = name_have name rest e may.1
      by false e = refl

  condition_have : (o : Option NamedCondition) (rest : List Word) → HasRule o → have false (condition_words o ++ rest) ≡ ((parts.named || not (is_some o)) && have false rest)
  condition_have None rest is = sym (true_after parts.named (have false rest))
  condition_have (Some c) rest is = kind c.kind ∙ by parts.named refl
    where
      kind : (k : ConditionKind) → have false (kind_word k ∷ words.Rule c.rule ∷ rest) ≡ (parts.named && have false (words.Rule c.rule ∷ rest))
      kind condition.When = refl
      kind condition.Unless = refl

      by : (named : Bool) → parts.named ≡ named → (named && have false (words.Rule c.rule ∷ rest)) ≡ ((named || false) && have false rest)
      by true e = name_have c.rule rest e is
      by false e = refl

  marks_have : (marked first : Bool) (points : List ℕ) (rest : List Word) → IsSequence points
      → have first (mark_words marked ++ (sequence_words points ++ rest)) ≡ ((marked_may parts first || not marked) && have false rest)
  marks_have marked first [] rest is = absurd is
  marks_have true first (c ∷ points) rest is = ap (λ b. marked_may parts first && b) (sequence_have points c false rest) ∙ ap (λ b. b && have false rest) (sym (or_false (marked_may parts first)))
    where
      or_false : (b : Bool) → (b || false) ≡ b
      or_false true = refl
      or_false false = refl
  marks_have false first (c ∷ points) rest is = sequence_have points c first rest ∙ ap (λ b. b && have false rest) (sym (or_true (marked_may parts first)))
    where
      or_true : (b : Bool) → (b || true) ≡ true
      or_true true = refl
      or_true false = refl

  shuffle : (m l t c r : Bool) → (m && (l && (t && (c && r)))) ≡ ((t && c && m) && (l && r))
  shuffle true true true true r = refl
  shuffle true true true false r = refl
  shuffle true true false true r = refl
  shuffle true true false false r = refl
  shuffle true false true true r = refl
  shuffle true false true false r = refl
  shuffle true false false true r = refl
  shuffle true false false false r = refl
  shuffle false true true true r = refl
  shuffle false true true false r = refl
  shuffle false true false true r = refl
  shuffle false true false false r = refl
  shuffle false false true true r = refl
  shuffle false false true false r = refl
  shuffle false false false true r = refl
  shuffle false false false false r = refl

  regroup : (a b c d e rest : List Word) → (a ++ (b ++ (c ++ (d ++ e)))) ++ rest ≡ a ++ (b ++ (c ++ (d ++ (e ++ rest))))
  regroup a b c d e rest = simp append_assoc

  mapped_have : (m : Mapped) (last : Option ℕ) (first : Bool) (rest : List Word) → IsMapped m
      → have first (mapped_words m last ++ rest) ≡ (is_within parts.named (marked_may parts first) m && ((parts.ranges || not (is_some last)) && have false rest))
  mapped_have m last first rest is =
      let marks : Bool = marked_may parts first || not m.marked in
      let ranges : Bool = parts.ranges || not (is_some last) in
      ap (have first) (regroup (mark_words m.marked) (sequence_words m.points) (last_words last) (type_words m.type_name) (condition_words m.condition) rest)
      ∙ marks_have m.marked first m.points (last_words last ++ (type_words m.type_name ++ (condition_words m.condition ++ rest))) is.sequence
      ∙ ap (λ b. marks && b) (last_have last (type_words m.type_name ++ (condition_words m.condition ++ rest)))
      ∙ ap (λ b. marks && (ranges && b)) (type_have m.type_name m.marked (condition_words m.condition ++ rest) is.type_name)
      ∙ ap (λ b. marks && (ranges && ((parts.named || not (is_some m.type_name)) && b))) (condition_have m.condition rest is.condition)
      ∙ shuffle marks ranges (parts.named || not (is_some m.type_name)) (parts.named || not (is_some m.condition)) (have false rest)

  variants_have : (variants : List Mapped) (m : Mapped) → AllByRecursion IsMapped (m ∷ variants) → have false (variants_words (m ∷ variants)) ≡ list_all (is_within parts.named parts.blocked) (m ∷ variants)
  variants_have [] m are =
      ap (have false) (sym (append-nil (mapped_words m None))) ∙ mapped_have m None false [] are.0 ∙ ap (λ b. is_within parts.named parts.blocked m && b) (true_after parts.ranges true)
  variants_have (v ∷ variants) m are =
      mapped_have m None false (words.Colon ∷ variants_words (v ∷ variants)) are.0
      ∙ ap (λ b. is_within parts.named parts.blocked m && b) (true_after parts.ranges (have false (variants_words (v ∷ variants))) ∙ variants_have variants v are.1)

  moved : (a b v : Bool) → (a && (b && v)) ≡ ((a && v) && b)
  moved true true v = true_right v
    where
      true_right : (v : Bool) → v ≡ (v && true)
      true_right true = refl
      true_right false = refl
  moved true false v = false_right v
    where
      false_right : (v : Bool) → false ≡ (v && false)
      false_right true = refl
      false_right false = refl
  moved false b v = refl

  alone : (m : Mapped) (last : Option ℕ) → IsMapped m → have true (mapped_words m last) ≡ ((is_within parts.named parts.invalid m && true) && (parts.ranges || not (is_some last)))
  alone m last is =
      ap (have true) (sym (append-nil (mapped_words m last))) ∙ mapped_have m last true [] is ∙ moved (is_within parts.named parts.invalid m) (parts.ranges || not (is_some last)) true

  form_have : (mapped : List Mapped) (last : Option ℕ) → IsForm mapped last → have true (entry_words mapped last) ≡ has_parts parts (record { mapped = mapped; last = last })
  form_have [] last is = absurd is
  form_have (m ∷ []) None is = alone m None is.0
  form_have (m ∷ []) (Some c) is = alone m (Some c) is.0
  form_have (m ∷ v ∷ variants) None is =
      mapped_have m None true (words.Bar ∷ variants_words (v ∷ variants)) is.0
      ∙ ap (λ b. is_within parts.named parts.invalid m && ((parts.ranges || true) && b)) (variants_have variants v is.1)
      ∙ moved (is_within parts.named parts.invalid m) (parts.ranges || true) (list_all (is_within parts.named parts.blocked) (v ∷ variants))
  form_have (m ∷ v ∷ variants) (Some c) is = absurd is

-- ---- its lexemes

-- an entry or a range with no other parts has no lexeme of another one
pub had_by_form : (parts : EntryParts) (form : EntryForm) (ws : List (List ℕ)) → IsForm form.mapped form.last → has_parts parts form ≡ true → AreWords (entry_words form.mapped form.last) ws → AllHad parts true ws
had_by_form parts form ws is has are = words_kept parts (entry_words form.mapped form.last) ws true (form_have false parts form.mapped form.last is ∙ has) are

-- and one without such a lexeme has no other parts
pub form_by_had : (parts : EntryParts) (form : EntryForm) (ws : List (List ℕ)) → IsForm form.mapped form.last → AreWords (entry_words form.mapped form.last) ws → AllHad parts true ws → has_parts parts form ≡ true
form_by_had parts form ws is are had = sym (form_have true parts form.mapped form.last is) ∙ words_had parts (entry_words form.mapped form.last) ws true had are
