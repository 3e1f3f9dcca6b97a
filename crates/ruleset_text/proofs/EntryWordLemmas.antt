-- Where no word is looked for in reading an entry, none can be lacking.
use Rattle.std.proofs.Common.{◌≡◌, ℕ, Bool, true, false, cond, ◌&&◌, List, length, Option, Some, None, refl, sym, ap, subst, ◌∙◌}
use Rattle.std.specs.Prelude.{bytes_eq, codes}
use Rattle.std.proofs.lemmas.Slice.Eq.{bytes_eq-Decides}
use Rattle.std.proofs.Math.Bool.{and-false}
use Rattle.ruleset_text.specs.declared.entry_parts.EntryParts.{EntryParts}
use Rattle.ruleset_text.specs.declared.entry_reading.Phase.{Phase}
use Rattle.ruleset_text.specs.declared.entry_reading.Phase.TheVariants as phase
use Rattle.label_patterns.specs.declared.condition.ConditionKind.TheVariants as condition
use Rattle.ruleset_text.specs.declared.entry_reading.EntryWord.{EntryWord}
use Rattle.ruleset_text.specs.declared.entry_reading.EntryWord.TheVariants as word
use Rattle.ruleset_text.specs.EntrySteps.{State, at_last, at_point, at_type, begin_by, is_begin, is_first, is_lacking, is_new, step, step_by, step_in, word_of}
use Rattle.idn_text.specs.Points.{point_of_hex}
use Rattle.ruleset_text.specs.Definitions.{Definitions}
use Rattle.ruleset_text.specs.EntryFaults.{Notes}
use Rattle.ruleset_text.specs.LineFaults.{unknown_in}
use Rattle.ruleset_text.specs.EntryWords.{point_of}
use Rattle.ruleset_text.specs.Names.{is_name}
use Rattle.ruleset_text.specs.inner.EntryTaken.{is_before_name}
use Rattle.ruleset_text.specs.PlacedLexemes.{Placed}
use Rattle.ruleset_text.specs.inner.EntryNoted.{and_notes, name_notes, names_next, noted, noted_word, with_word}
use Rattle.ruleset_text.proofs.EntryPartLemmas.{name_kept, no_word_lacking, point_word}
use Rattle.ruleset_text.proofs.EntryStateLemmas.{IsSpelled, spelled}

-- a step that a lacking word can't make needs no look at the word
unasked : (b : Bool) (o : Option State) → (b ≡ true → o ≡ None) → cond b None o ≡ o
unasked true o h = sym (h refl)
unasked false o h = refl

-- ---- code points

lacks_point : (parts : EntryParts) (first : Bool) (w : List ℕ) → is_lacking parts first (word_of w) ≡ true → point_of w ≡ None
lacks_point parts first w h = by (point_of w) refl
  where
    by : (o : Option ℕ) → point_of w ≡ o → o ≡ None
    by None e = refl
    by (Some c) e = absurd (let clash : true ≡ false = sym h ∙ no_word_lacking parts first (word_of w) (point_word w c (word_of w) (spelled w) e) in cc)

module _ (parts : EntryParts) (s : State) (w : List ℕ) where
  at_phase : (p : Phase) → s.phase ≡ p → step_in parts s w ≡ cond (is_lacking parts (is_new s) (word_of w)) None (step_by p s w)
  at_phase p e = ap (λ q. cond (is_lacking parts (is_new s) (word_of w)) None (step_by q s w)) e

  point_next : step_in parts s w ≡ cond (is_lacking parts (is_new s) (word_of w)) None (at_point s (point_of w)) → step_in parts s w ≡ at_point s (point_of w)
  point_next e = e ∙ unasked (is_lacking parts (is_new s) (word_of w)) (at_point s (point_of w)) (λ h. ap (at_point s) (lacks_point parts (is_new s) w h))

  pub after_mark : s.phase ≡ phase.Mark → step_in parts s w ≡ at_point s (point_of w)
  after_mark e = point_next (at_phase phase.Mark e)

  pub after_hyphen : s.phase ≡ phase.Hyphen → step_in parts s w ≡ at_point s (point_of w)
  after_hyphen e = point_next (at_phase phase.Hyphen e)

  pub after_range : s.phase ≡ phase.Range → step_in parts s w ≡ at_last s (point_of w)
  after_range e =
      at_phase phase.Range e ∙ unasked (is_lacking parts (is_new s) (word_of w)) (at_last s (point_of w)) (λ h. ap (at_last s) (lacks_point parts (is_new s) w h))

  -- ---- '!'

  pub begin_other : s.phase ≡ phase.Begin → bytes_eq w (codes "!") ≡ false → step_in parts s w ≡ at_point s (point_of w)
  begin_other e other = point_next (at_phase phase.Begin e ∙ ap (λ o. cond (is_lacking parts (is_new s) (word_of w)) None o) (by (word_of w) refl))
    where
      by : (x : EntryWord) → word_of w ≡ x → begin_by s x w ≡ at_point s (point_of w)
      by word.Mark is = absurd (let clash : true ≡ false = sym ((bytes_eq-Decides w (codes "!")).1 (subst (λ x. IsSpelled x w) is (spelled w))) ∙ other in cc)
      by x is = refl

  pub mark_noted : (d : Definitions) (place : ℕ) (n : Notes) → s.phase ≡ phase.Begin → w ≡ codes "!" → noted d s (record { place = place; lexeme = w }) n ≡ n
  unfolding point_of_hex
  mark_noted d place n e is =
      let mark : List ℕ = codes "!" in
      let none : noted_word phase.Begin mark ≡ None = refl in
      ap (λ p. with_word d (length s.done) (length s.current.points) (noted_word p w) (record { place = place; lexeme = w }) n) e
      ∙ ap (λ o. with_word d (length s.done) (length s.current.points) o (record { place = place; lexeme = w }) n) (ap (noted_word phase.Begin) is ∙ none)

  -- ---- words and names

  not_new : (p : Phase) → s.phase ≡ p → is_before_name p ≡ true → is_new s ≡ false
  not_new p e h = ap (λ q. is_first s.done && is_begin q) e ∙ by p h
    where
      by : (q : Phase) → is_before_name q ≡ true → (is_first s.done && is_begin q) ≡ false
      by phase.Begin h = absurd cc
      by phase.Mark h = and-false (is_first s.done)
      by phase.Point h = and-false (is_first s.done)
      by phase.Hyphen h = and-false (is_first s.done)
      by phase.Range h = and-false (is_first s.done)
      by phase.Last h = and-false (is_first s.done)
      by phase.As h = and-false (is_first s.done)
      by phase.VariantType h = and-false (is_first s.done)
      by phase.When h = and-false (is_first s.done)
      by phase.Unless h = and-false (is_first s.done)
      by phase.Rule h = and-false (is_first s.done)

  -- the step before a name
  named_step : is_before_name s.phase ≡ true → step_in parts s w ≡ cond (is_lacking parts false (word_of w)) None (step s w)
  named_step h = ap (λ f. cond (is_lacking parts f (word_of w)) None (step s w)) (not_new s.phase refl h)

  pub name_lacks : is_before_name s.phase ≡ true → is_lacking parts false (word_of w) ≡ true → step_in parts s w ≡ None
  name_lacks h lacks = named_step h ∙ ap (λ b. cond b None (step s w)) lacks

  pub name_had : is_before_name s.phase ≡ true → is_lacking parts false (word_of w) ≡ false → step_in parts s w ≡ step s w
  name_had h had = named_step h ∙ ap (λ b. cond b None (step s w)) had

  no_name_taken : (p : Phase) → is_before_name p ≡ true → is_name w ≡ false → step_by p s w ≡ None
  no_name_taken phase.Begin h none = absurd cc
  no_name_taken phase.Mark h none = absurd cc
  no_name_taken phase.Point h none = absurd cc
  no_name_taken phase.Hyphen h none = absurd cc
  no_name_taken phase.Range h none = absurd cc
  no_name_taken phase.Last h none = absurd cc
  no_name_taken phase.VariantType h none = absurd cc
  no_name_taken phase.Rule h none = absurd cc
  no_name_taken phase.As h none =
      ap (λ b. cond b (Some (record s { current = record s.current { type_name = Some w }; phase = phase.VariantType })) None) none
  no_name_taken phase.When h none = ap (λ b. cond b (Some (record s { current = record s.current { condition = Some (record { kind = condition.When; rule = w }) }; phase = phase.Rule })) None) none
  no_name_taken phase.Unless h none = ap (λ b. cond b (Some (record s { current = record s.current { condition = Some (record { kind = condition.Unless; rule = w }) }; phase = phase.Rule })) None) none

  -- what is noted of a name
  pub name_noted : (d : Definitions) (place : ℕ) (n : Notes) → is_before_name s.phase ≡ true
      → and_notes n (name_notes (unknown_in (names_next d s.phase) w (record { place = place; lexeme = w }))) ≡ noted d s (record { place = place; lexeme = w }) n
  name_noted d place n h = by s.phase h
    where
      at : Placed
      at = record { place = place; lexeme = w }

      by : (p : Phase) → is_before_name p ≡ true → and_notes n (name_notes (unknown_in (names_next d p) w at)) ≡ with_word d (length s.done) (length s.current.points) (noted_word p w) at n
      by phase.As h = refl
      by phase.When h = refl
      by phase.Unless h = refl
      by phase.Begin h = absurd cc
      by phase.Mark h = absurd cc
      by phase.Point h = absurd cc
      by phase.Hyphen h = absurd cc
      by phase.Range h = absurd cc
      by phase.Last h = absurd cc
      by phase.VariantType h = absurd cc
      by phase.Rule h = absurd cc

  pub name_free : is_before_name s.phase ≡ true → parts.named ≡ true → step_in parts s w ≡ step s w
  name_free h named = named_step h ∙ unasked (is_lacking parts false (word_of w)) (step s w) (λ lacks. by (is_name w) refl lacks)
    where
      by : (b : Bool) → is_name w ≡ b → is_lacking parts false (word_of w) ≡ true → step s w ≡ None
      by false none lacks = no_name_taken s.phase h none
      by true name lacks = absurd (let clash : true ≡ false = sym lacks ∙ name_kept parts false w (word_of w) named name (spelled w) in cc)

  -- of the names only that of a type is left
  pub type_next : is_before_name s.phase ≡ true → (s.phase ≡ phase.When → ⊥) → (s.phase ≡ phase.Unless → ⊥) → step s w ≡ at_type s w
  type_next h not_when not_unless = by s.phase refl h
    where
      by : (p : Phase) → s.phase ≡ p → is_before_name p ≡ true → step_by p s w ≡ at_type s w
      by phase.As e h = refl
      by phase.When e h = absurd (not_when e)
      by phase.Unless e h = absurd (not_unless e)
      by phase.Begin e h = absurd cc
      by phase.Mark e h = absurd cc
      by phase.Point e h = absurd cc
      by phase.Hyphen e h = absurd cc
      by phase.Range e h = absurd cc
      by phase.Last e h = absurd cc
      by phase.VariantType e h = absurd cc
      by phase.Rule e h = absurd cc

-- ---- what a step does before a code point, and before a name

pub ruleset point_steps = (after_mark, after_hyphen, after_range)

pub ruleset name_steps = (name_lacks, name_had, name_free, type_next)
