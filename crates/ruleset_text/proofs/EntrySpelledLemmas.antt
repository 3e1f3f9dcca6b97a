-- The grammar says of a line what is read of it.
use Rattle.std.proofs.Common.{◌≡◌, ℕ, ◌+◌, Bool, true, false, cond, eqb, List, [], ◌∷◌, ◌++◌, length, map, filter, length-append, Option, Some, None, refl, sym, ap, subst, ◌∙◌, append_assoc, append-nil, arith}
use Rattle.std.specs.Prelude.{IsTrue, codes, nat_le}
use Rattle.std.specs.List.{AllByRecursion}
use Rattle.std.proofs.lemmas.Bool.{eqb-true, leb-true}
use Rattle.std.specs.Option.{option_map, option_or}
use Rattle.idn_text.specs.Points.{is_scalar_value, point_of_hex}
use Rattle.ruleset_text.specs.declared.named_condition.NamedCondition.{NamedCondition}
use Rattle.label_patterns.specs.declared.condition.ConditionKind.{ConditionKind}
use Rattle.label_patterns.specs.declared.condition.ConditionKind.TheVariants as condition
use Rattle.ruleset_text.specs.declared.entry_reading.EntryWord.{EntryWord}
use Rattle.ruleset_text.specs.declared.entry_reading.EntryWord.TheVariants as word
use Rattle.ruleset_text.specs.declared.entry_reading.Phase.TheVariants as phase
use Rattle.ruleset_text.specs.declared.entry_notes.LinePoint.{LinePoint}
use Rattle.ruleset_text.specs.declared.fault.FaultPlace.{FaultPlace}
use Rattle.ruleset_text.specs.Definitions.{Definitions}
use Rattle.ruleset_text.specs.Entries.{Mapped, EntryForm}
use Rattle.ruleset_text.specs.EntryFaults.{Notes, PlacedWord, begin_places, faults_of, notes_of, placed_words, points_from}
use Rattle.ruleset_text.specs.EntryText.{IsMapped, IsForm}
use Rattle.ruleset_text.specs.EntryWords as words
use Rattle.ruleset_text.specs.EntryWords.{Word, IsWord, AreWords, point_of, mark_words, sequence_words, last_words, type_words, kind_word, mapped_words, variants_words, entry_words}
use Rattle.ruleset_text.specs.EntrySteps.{State, start, word_of, marked, at_point, at_last, at_type, at_rule, begin_by, after_rule, after_type, after_points, after_point, step_by, step, state_after, ended, entry_at, entry_in}
use Rattle.ruleset_text.specs.Tokens.{without_prefix}
use Rattle.ruleset_text.specs.Names.{is_name}
use Rattle.ruleset_text.proofs.EntryLemmas.{none_after}
use Rattle.ruleset_text.proofs.EntryStateLemmas.{part, at, before, after, phase_of, kind_phase, MayEnd, form_at, IsSpelled, spelled}
use Rattle.ruleset_text.specs.Lexemes.{lexemes}
use Rattle.ruleset_text.specs.PlacedLexemes.{Placed, placed_lexemes, unplaced}
use Rattle.ruleset_text.specs.inner.EntryNoted.{and_notes, noted, noted_from, noted_word, nothing_noted, with_word, word_notes}
use Rattle.ruleset_text.proofs.HexLemmas.{hex_facts}
use Rattle.ruleset_text.proofs.LineFaultLemmas.{or_assoc, or_nothing}
use Rattle.ruleset_text.proofs.PlacedLemmas.{unplaced-from}

-- ---- what was read, and what is known of it

-- those that are complete, and a further one that may end
record IsKnown (done : List Mapped) (last : Option ℕ) (m : Mapped) : Type 0 where
  all : AllByRecursion IsMapped done
  mapped : IsMapped m
  ends : MayEnd done last m.points

data Reached : Type 0 where
  AtBegin : (done : List Mapped) → AllByRecursion IsMapped done → Reached
  AtMark : (done : List Mapped) → AllByRecursion IsMapped done → Reached
  AtEnd : (done : List Mapped) (last : Option ℕ) (m : Mapped) → IsKnown done last m → Reached
  AtHyphen : (done : List Mapped) (marked : Bool) (c : ℕ) (points : List ℕ) → IsKnown done None (part marked (c ∷ points) None None) → Reached
  AtRange : (marked : Bool) (c : ℕ) → IsKnown [] None (part marked (c ∷ []) None None) → Reached
  AtAs : (done : List Mapped) (last : Option ℕ) (points : List ℕ) → IsKnown done last (part false points None None) → Reached
  AtKind : (kind : ConditionKind) (done : List Mapped) (last : Option ℕ) (marked : Bool) (points : List ℕ) (type_name : Option (List ℕ)) → IsKnown done last (part marked points type_name None) → Reached

abbrev state_at : Reached → State
state_at (AtBegin done all) = before done
state_at (AtMark done all) = record { done = done; current = part true [] None None; last = None; phase = phase.Mark }
state_at (AtEnd done last m known) = after done last m
state_at (AtHyphen done marked c points known) = record { done = done; current = part marked (c ∷ points) None None; last = None; phase = phase.Hyphen }
state_at (AtRange marked c known) = record { done = []; current = part marked (c ∷ []) None None; last = None; phase = phase.Range }
state_at (AtAs done last points known) = record { done = done; current = part false points None None; last = last; phase = phase.As }
state_at (AtKind kind done last marked points type_name known) = record { done = done; current = part marked points type_name None; last = last; phase = kind_phase kind }

-- the words of a source and variants, each with the separator after it
abbrev each_words : List Mapped → List Word
each_words [] = []
each_words (m ∷ variants) = mapped_words m None ++ words.Colon ∷ each_words variants

abbrev done_words : List Mapped → List Word
done_words [] = []
done_words (source ∷ variants) = mapped_words source None ++ words.Bar ∷ each_words variants

abbrev words_at : Reached → List Word
words_at (AtBegin done all) = done_words done
words_at (AtMark done all) = done_words done ++ words.Mark ∷ []
words_at (AtEnd done last m known) = done_words done ++ mapped_words m last
words_at (AtHyphen done marked c points known) = (done_words done ++ mapped_words (part marked (c ∷ points) None None) None) ++ words.Hyphen ∷ []
words_at (AtRange marked c known) = mapped_words (part marked (c ∷ []) None None) None ++ words.Range ∷ []
words_at (AtAs done last points known) = (done_words done ++ mapped_words (part false points None None) last) ++ words.As ∷ []
words_at (AtKind kind done last marked points type_name known) = (done_words done ++ mapped_words (part marked points type_name None) last) ++ kind_word kind ∷ []

-- ---- what is noted

-- how many sequences stand before what is read next, and how many code points of its sequence
abbrev sequences : Reached → ℕ
sequences v = length (state_at v).done

abbrev index_with : Option ℕ → List ℕ → ℕ
index_with None points = length points
index_with (Some last) points = length points + 1

abbrev index : Reached → ℕ
index v = index_with (state_at v).last (state_at v).current.points

-- the same after a word
abbrev sequences_after : ℕ → Word → ℕ
sequences_after s words.Bar = s + 1
sequences_after s words.Colon = s + 1
sequences_after s x = s

abbrev index_after : ℕ → Word → ℕ
index_after i (words.Point c) = i + 1
index_after i words.Bar = 0
index_after i words.Colon = 0
index_after i x = i

-- what is noted of a lexeme is what is noted of the word that it is
record NotedAs (v u : Reached) (x : Word) (w : List ℕ) : Type 0 where
  here : (d : Definitions) (place : ℕ) (n : Notes) → noted d (state_at v) (record { place = place; lexeme = w }) n ≡ and_notes n (word_notes d (sequences v) (index v) x (record { place = place; lexeme = w }))
  sequences : sequences u ≡ sequences_after (sequences v) x
  index : index u ≡ index_after (index v) x

pub nothing_more : (n : Notes) → and_notes n nothing_noted ≡ n
nothing_more n =
    ap (λ l. record { begins = l; faults = record { limit = option_or n.faults.limit None; name = option_or n.faults.name None; class = option_or n.faults.class None } }) (append-nil n.begins)
    ∙ ap (λ o. record { begins = n.begins; faults = record { limit = o; name = option_or n.faults.name None; class = option_or n.faults.class None } }) (or_nothing n.faults.limit)
    ∙ ap (λ o. record { begins = n.begins; faults = record { limit = n.faults.limit; name = o; class = option_or n.faults.class None } }) (or_nothing n.faults.name)
    ∙ ap (λ o. record { begins = n.begins; faults = record { limit = n.faults.limit; name = n.faults.name; class = o } }) (or_nothing n.faults.class)

-- a lexeme of which nothing is noted
quiet : {v u : Reached} {x : Word} {w : List ℕ} → noted_word (state_at v).phase w ≡ None → ((d : Definitions) (s i : ℕ) (p : Placed) → word_notes d s i x p ≡ nothing_noted)
    → sequences u ≡ sequences_after (sequences v) x → index u ≡ index_after (index v) x → NotedAs v u x w
quiet {v} {u} {x} {w} none no_notes s i = record {
  here = λ d place n.
      let p : Placed = record { place = place; lexeme = w } in
      ap (λ o. with_word d (length (state_at v).done) (length (state_at v).current.points) o p n) none
      ∙ sym (ap (and_notes n) (no_notes d (sequences v) (index v) p) ∙ nothing_more n);
  sequences = s;
  index = i;
}

-- a word of which something is noted
heard : {v u : Reached} {x : Word} {w : List ℕ} → noted_word (state_at v).phase w ≡ Some x
    → ((d : Definitions) (p : Placed) → word_notes d (sequences v) (length (state_at v).current.points) x p ≡ word_notes d (sequences v) (index v) x p)
    → sequences u ≡ sequences_after (sequences v) x → index u ≡ index_after (index v) x → NotedAs v u x w
heard {v} {u} {x} {w} some at s i = record {
  here = λ d place n.
      let p : Placed = record { place = place; lexeme = w } in
      ap (λ o. with_word d (sequences v) (length (state_at v).current.points) o p n) some ∙ ap (and_notes n) (at d p);
  sequences = s;
  index = i;
}

no_point_mark : (w : List ℕ) → w ≡ codes "!" → noted_word phase.Begin w ≡ None
unfolding point_of_hex
no_point_mark w is = let none : noted_word phase.Begin (codes "!") ≡ None = refl in ap (noted_word phase.Begin) is ∙ none

kind_noted : (kind : ConditionKind) (w : List ℕ) → noted_word (kind_phase kind) w ≡ Some (words.Rule w)
kind_noted condition.When w = refl
kind_noted condition.Unless w = refl

ended_word : (last : Option ℕ) (type_name : Option (List ℕ)) (condition : Option NamedCondition) (w : List ℕ) → noted_word (phase_of last type_name condition) w ≡ None
ended_word last type_name (Some c) w = refl
ended_word last (Some name) None w = refl
ended_word (Some c) None None w = refl
ended_word None None None w = refl

one_more : {X : Type 0} (xs : List X) (x : X) → length (xs ++ x ∷ []) ≡ length xs + 1
one_more xs x = length-append xs (x ∷ [])

-- ---- a lexeme more

-- what was read with a lexeme more, which is a word
record Next (v : Reached) (w : List ℕ) (t : State) : Type 0 where
  reached : Reached
  state : state_at reached ≡ t
  word : Word
  is : IsWord word w
  words : words_at reached ≡ words_at v ++ word ∷ []
  noted : NotedAs v reached word w

same_state : (s t : State) → Some s ≡ Some t → s ≡ t
same_state s t e = cc

no_state : {A : Type 0} (t : State) → None ≡ Some t → A
no_state t e = absurd cc

next : (v u : Reached) (x : Word) (w : List ℕ) (t : State) → Some (state_at u) ≡ Some t → IsWord x w → words_at u ≡ words_at v ++ x ∷ [] → NotedAs v u x w → Next v w t
next v u x w t e is words noted = record { reached = u; state = same_state (state_at u) t e; word = x; is = is; words = words; noted = noted }

state_if : (b : Bool) (s t : State) → cond b (Some s) None ≡ Some t → (b ≡ true) × (Some s ≡ Some t)
state_if true s t e = (refl, e)
state_if false s t e = no_state t e

-- ---- after a complete source or variant

all_more : (ms : List Mapped) (m : Mapped) → AllByRecursion IsMapped ms → IsMapped m → AllByRecursion IsMapped (ms ++ m ∷ [])
all_more [] m all is = (is, tt)
all_more (n ∷ ms) m all is = (all.0, all_more ms m all.1 is)

each_more : (ms : List Mapped) (m : Mapped) → each_words (ms ++ m ∷ []) ≡ each_words ms ++ (mapped_words m None ++ words.Colon ∷ [])
each_more [] m = refl
each_more (n ∷ ms) m =
    ap (λ l. mapped_words n None ++ words.Colon ∷ l) (each_more ms m) ∙ sym (append_assoc (mapped_words n None) (words.Colon ∷ each_words ms) (mapped_words m None ++ words.Colon ∷ []))

colon_words : (first : Mapped) (done : List Mapped) (m : Mapped) → done_words (first ∷ (done ++ m ∷ [])) ≡ (done_words (first ∷ done) ++ mapped_words m None) ++ words.Colon ∷ []
colon_words first done m =
    ap (λ l. mapped_words first None ++ words.Bar ∷ l) (each_more done m)
    ∙ sym (append_assoc (mapped_words first None) (words.Bar ∷ each_words done) (mapped_words m None ++ words.Colon ∷ []))
    ∙ sym (append_assoc (done_words (first ∷ done)) (mapped_words m None) (words.Colon ∷ []))

rule_next : (done : List Mapped) (last : Option ℕ) (m : Mapped) (known : IsKnown done last m) (w : List ℕ) (t : State) (e : EntryWord) → IsSpelled e w → after_rule (after done last m) e ≡ Some t → Next (AtEnd done last m known) w t
rule_next done (Some c) m known w t e is h = no_state t h
rule_next [] None m known w t word.Bar is h = next (AtEnd [] None m known) (AtBegin (m ∷ []) (known.mapped, tt)) words.Bar w t h is refl (quiet (ended_word None m.type_name m.condition w) (λ d s i p. refl) refl refl)
rule_next (first ∷ done) None m known w t word.Bar is h = no_state t h
rule_next [] None m known w t word.Colon is h = no_state t h
rule_next (first ∷ done) None m known w t word.Colon is h =
    next (AtEnd (first ∷ done) None m known) (AtBegin ((first ∷ done) ++ m ∷ []) (all_more (first ∷ done) m known.all known.mapped)) words.Colon w t h is (colon_words first done m) (quiet (ended_word None m.type_name m.condition w) (λ d s i p. refl) (one_more (first ∷ done) m) refl)
rule_next done None m known w t e is h = no_state t h

type_next : (done : List Mapped) (last : Option ℕ) (marked : Bool) (points : List ℕ) (type_name : Option (List ℕ)) (known : IsKnown done last (part marked points type_name None)) (w : List ℕ) (t : State) (e : EntryWord) → IsSpelled e w
    → after_type (after done last (part marked points type_name None)) e ≡ Some t → Next (AtEnd done last (part marked points type_name None) known) w t
type_next done last marked points type_name known w t word.When is h = next (AtEnd done last (part marked points type_name None) known) (AtKind condition.When done last marked points type_name known) words.When w t h is refl (quiet (ended_word last type_name None w) (λ d s i p. refl) refl refl)
type_next done last marked points type_name known w t word.Unless is h = next (AtEnd done last (part marked points type_name None) known) (AtKind condition.Unless done last marked points type_name known) words.Unless w t h is refl (quiet (ended_word last type_name None w) (λ d s i p. refl) refl refl)
type_next done last marked points type_name known w t e is h = rule_next done last (part marked points type_name None) known w t e is h

points_next : (done : List Mapped) (last : Option ℕ) (marked : Bool) (points : List ℕ) (known : IsKnown done last (part marked points None None)) (w : List ℕ) (t : State) (e : EntryWord) → IsSpelled e w
    → after_points (after done last (part marked points None None)) e ≡ Some t → Next (AtEnd done last (part marked points None None) known) w t
points_next done last false points known w t word.As is h = next (AtEnd done last (part false points None None) known) (AtAs done last points known) words.As w t h is refl (quiet (ended_word last None None w) (λ d s i p. refl) refl refl)
points_next done last true points known w t word.As is h = no_state t h
points_next done last marked points known w t e is h = type_next done last marked points None known w t e is h

not_one : (c d : ℕ) (points : List ℕ) → eqb (length (c ∷ d ∷ points)) 1 ≡ true → ⊥
not_one c d points e = let same : length (c ∷ d ∷ points) ≡ 1 = eqb-true (length (c ∷ d ∷ points)) 1 e in omega (arith, same)

point_next : (done : List Mapped) (marked : Bool) (points : List ℕ) (known : IsKnown done None (part marked points None None)) (w : List ℕ) (t : State) (e : EntryWord) → IsSpelled e w
    → after_point (after done None (part marked points None None)) e ≡ Some t → Next (AtEnd done None (part marked points None None) known) w t
point_next done marked [] known w t e is h = absurd known.mapped.sequence
point_next done marked (c ∷ points) known w t word.Hyphen is h = next (AtEnd done None (part marked (c ∷ points) None None) known) (AtHyphen done marked c points known) words.Hyphen w t h is refl (quiet refl (λ d s i p. refl) refl refl)
point_next [] marked (c ∷ []) known w t word.Range is h = next (AtEnd [] None (part marked (c ∷ []) None None) known) (AtRange marked c known) words.Range w t h is refl (quiet refl (λ d s i p. refl) refl refl)
point_next [] marked (c ∷ d ∷ points) known w t word.Range is h =
    let s : State = record (after [] None (part marked (c ∷ d ∷ points) None None)) { phase = phase.Range } in
    absurd (not_one c d points (state_if (eqb (length (c ∷ d ∷ points)) 1) s t h).0)
point_next (first ∷ done) marked (c ∷ points) known w t word.Range is h = no_state t h
point_next done marked (c ∷ points) known w t e is h = points_next done None marked (c ∷ points) known w t e is h

end_next : (done : List Mapped) (last : Option ℕ) (marked : Bool) (points : List ℕ) (type_name : Option (List ℕ)) (condition : Option NamedCondition) (known : IsKnown done last (part marked points type_name condition)) (w : List ℕ) (t : State)
    → step_by (phase_of last type_name condition) (at done last marked points type_name condition) w ≡ Some t → Next (AtEnd done last (part marked points type_name condition) known) w t
end_next done last marked points type_name (Some c) known w t h = rule_next done last (part marked points type_name (Some c)) known w t (word_of w) (spelled w) h
end_next done last marked points (Some name) None known w t h = type_next done last marked points (Some name) known w t (word_of w) (spelled w) h
end_next done (Some c) marked points None None known w t h = points_next done (Some c) marked points known w t (word_of w) (spelled w) h
end_next done None marked points None None known w t h = point_next done marked points known w t (word_of w) (spelled w) h

-- ---- code points

scalar_of : (w : List ℕ) (c : ℕ) → point_of w ≡ Some c → is_scalar_value c ≡ true
scalar_of w c e = (hex_facts (without_prefix w) c e).scalar

scalars_more : (points : List ℕ) (d : ℕ) → AllByRecursion (λ c. IsTrue (is_scalar_value c)) points → is_scalar_value d ≡ true → AllByRecursion (λ c. IsTrue (is_scalar_value c)) (points ++ d ∷ [])
scalars_more [] d all scalar = (scalar, tt)
scalars_more (c ∷ points) d all scalar = (all.0, scalars_more points d all.1 scalar)

sequence_more : (points : List ℕ) (c d : ℕ) → sequence_words (c ∷ (points ++ d ∷ [])) ≡ sequence_words (c ∷ points) ++ words.Hyphen ∷ words.Point d ∷ []
sequence_more [] c d = refl
sequence_more (e ∷ points) c d = ap (λ l. words.Point c ∷ words.Hyphen ∷ l) (sequence_more points e d)

-- a single code point
single_known : (done : List Mapped) (marked : Bool) (c : ℕ) → AllByRecursion IsMapped done → is_scalar_value c ≡ true → IsKnown done None (part marked (c ∷ []) None None)
single_known done marked c all scalar = record { all = all; mapped = record { sequence = (scalar, tt); type_name = tt; condition = tt }; ends = tt }

point_begins : (done : List Mapped) (all : AllByRecursion IsMapped done) (w : List ℕ) (t : State) (o : Option ℕ) → point_of w ≡ o → at_point (before done) o ≡ Some t → Next (AtBegin done all) w t
point_begins done all w t None is h = no_state t h
point_begins done all w t (Some c) is h =
    next (AtBegin done all) (AtEnd done None (part false (c ∷ []) None None) (single_known done false c all (scalar_of w c is))) (words.Point c) w t h is refl (heard (ap (option_map words.Point) is) (λ d p. refl) refl refl)

begin_next : (done : List Mapped) (all : AllByRecursion IsMapped done) (w : List ℕ) (t : State) (e : EntryWord) → IsSpelled e w → begin_by (before done) e w ≡ Some t → Next (AtBegin done all) w t
begin_next done all w t word.Mark is h = next (AtBegin done all) (AtMark done all) words.Mark w t h is refl (quiet (no_point_mark w is) (λ d s i p. refl) refl refl)
begin_next done all w t e is h = point_begins done all w t (point_of w) refl h

mark_next : (done : List Mapped) (all : AllByRecursion IsMapped done) (w : List ℕ) (t : State) (o : Option ℕ) → point_of w ≡ o → at_point (state_at (AtMark done all)) o ≡ Some t → Next (AtMark done all) w t
mark_next done all w t None is h = no_state t h
mark_next done all w t (Some c) is h =
    next (AtMark done all) (AtEnd done None (part true (c ∷ []) None None) (single_known done true c all (scalar_of w c is))) (words.Point c) w t h is
    (sym (append_assoc (done_words done) (words.Mark ∷ []) (words.Point c ∷ []))) (heard (ap (option_map words.Point) is) (λ d p. refl) refl refl)

-- the words of a sequence with a code point more
regroup_point : (xs ms ss : List Word) (x y : Word) → xs ++ (ms ++ ((ss ++ x ∷ y ∷ []) ++ [])) ≡ ((xs ++ (ms ++ (ss ++ []))) ++ x ∷ []) ++ y ∷ []
regroup_point xs ms ss x y = simp (append_assoc, append-nil)

hyphen_next : (done : List Mapped) (marked : Bool) (c : ℕ) (points : List ℕ) (known : IsKnown done None (part marked (c ∷ points) None None)) (w : List ℕ) (t : State) (o : Option ℕ) → point_of w ≡ o
    → at_point (state_at (AtHyphen done marked c points known)) o ≡ Some t → Next (AtHyphen done marked c points known) w t
hyphen_next done marked c points known w t None is h = no_state t h
hyphen_next done marked c points known w t (Some d) is h =
    let more : IsKnown done None (part marked (c ∷ (points ++ d ∷ [])) None None) =
    record { all = known.all; mapped = record { sequence = scalars_more (c ∷ points) d known.mapped.sequence (scalar_of w d is); type_name = tt; condition = tt }; ends = tt } in
    next (AtHyphen done marked c points known) (AtEnd done None (part marked (c ∷ (points ++ d ∷ [])) None None) more) (words.Point d) w t h is
    (ap (λ l. done_words done ++ (mark_words marked ++ (l ++ []))) (sequence_more points c d) ∙ regroup_point (done_words done) (mark_words marked) (sequence_words (c ∷ points)) words.Hyphen (words.Point d))
    (heard (ap (option_map words.Point) is) (λ d p. refl) refl (one_more (c ∷ points) d))

range_next : (marked : Bool) (c : ℕ) (known : IsKnown [] None (part marked (c ∷ []) None None)) (w : List ℕ) (t : State) (o : Option ℕ) → point_of w ≡ o
    → at_last (state_at (AtRange marked c known)) o ≡ Some t → Next (AtRange marked c known) w t
range_next marked c known w t None is h = no_state t h
range_next marked c known w t (Some d) is h =
    let parts = state_if (nat_le c d) (after [] (Some d) (part marked (c ∷ []) None None)) t h in
    let ends : IsKnown [] (Some d) (part marked (c ∷ []) None None) = record { all = tt; mapped = known.mapped; ends = (refl, scalar_of w d is, (c, refl, leb-true c d parts.0)) } in
    next (AtRange marked c known) (AtEnd [] (Some d) (part marked (c ∷ []) None None) ends) (words.Point d) w t parts.1 is
    (regroup_last (mark_words marked) (words.Point c) words.Range (words.Point d)) (heard (ap (option_map words.Point) is) (λ d p. refl) refl refl)
  where
    regroup_last : (ms : List Word) (x y z : Word) → ms ++ x ∷ y ∷ z ∷ [] ≡ ((ms ++ x ∷ []) ++ y ∷ []) ++ z ∷ []
    regroup_last ms x y z = simp append_assoc

-- ---- types and conditions

regroup_name : (xs ss ls : List Word) (x y : Word) → xs ++ (ss ++ (ls ++ ((x ∷ y ∷ []) ++ []))) ≡ ((xs ++ (ss ++ (ls ++ []))) ++ x ∷ []) ++ y ∷ []
regroup_name xs ss ls x y = simp (append_assoc, append-nil)

as_next : (done : List Mapped) (last : Option ℕ) (points : List ℕ) (known : IsKnown done last (part false points None None)) (w : List ℕ) (t : State)
    → at_type (state_at (AtAs done last points known)) w ≡ Some t → Next (AtAs done last points known) w t
as_next done last points known w t h =
    let parts = state_if (is_name w) (after done last (part false points (Some w) None)) t h in
    let more : IsKnown done last (part false points (Some w) None) =
    record { all = known.all; mapped = record { sequence = known.mapped.sequence; type_name = (refl, parts.0); condition = tt }; ends = known.ends } in
    next (AtAs done last points known) (AtEnd done last (part false points (Some w) None) more) (words.TypeName w) w t parts.1 refl
    (regroup_name (done_words done) (sequence_words points) (last_words last) words.As (words.TypeName w))
    (heard refl (λ d p. refl) refl refl)

regroup_rule : (xs ms ss ls ts : List Word) (x y : Word) → xs ++ (ms ++ (ss ++ (ls ++ (ts ++ x ∷ y ∷ [])))) ≡ ((xs ++ (ms ++ (ss ++ (ls ++ (ts ++ []))))) ++ x ∷ []) ++ y ∷ []
regroup_rule xs ms ss ls ts x y = simp (append_assoc, append-nil)

kind_step : (kind : ConditionKind) (s : State) (w : List ℕ) → step_by (kind_phase kind) s w ≡ at_rule s kind w
kind_step condition.When s w = refl
kind_step condition.Unless s w = refl

kind_next : (kind : ConditionKind) (done : List Mapped) (last : Option ℕ) (marked : Bool) (points : List ℕ) (type_name : Option (List ℕ)) (known : IsKnown done last (part marked points type_name None)) (w : List ℕ) (t : State)
    → at_rule (state_at (AtKind kind done last marked points type_name known)) kind w ≡ Some t → Next (AtKind kind done last marked points type_name known) w t
kind_next kind done last marked points type_name known w t h =
    let c : NamedCondition = record { kind = kind; rule = w } in
    let parts = state_if (is_name w) (after done last (part marked points type_name (Some c))) t h in
    let more : IsKnown done last (part marked points type_name (Some c)) =
    record { all = known.all; mapped = record { sequence = known.mapped.sequence; type_name = known.mapped.type_name; condition = parts.0 }; ends = known.ends } in
    next (AtKind kind done last marked points type_name known) (AtEnd done last (part marked points type_name (Some c)) more) (words.Rule w) w t parts.1 refl
    (regroup_rule (done_words done) (mark_words marked) (sequence_words points) (last_words last) (type_words type_name) (kind_word kind) (words.Rule w))
    (heard (kind_noted kind w) (λ d p. refl) refl refl)

-- ---- the next lexeme

next_of : (v : Reached) (w : List ℕ) (t : State) → step (state_at v) w ≡ Some t → Next v w t
next_of (AtBegin done all) w t h = begin_next done all w t (word_of w) (spelled w) h
next_of (AtMark done all) w t h = mark_next done all w t (point_of w) refl h
next_of (AtEnd done last m known) w t h = end_next done last m.marked m.points m.type_name m.condition known w t h
next_of (AtHyphen done marked c points known) w t h = hyphen_next done marked c points known w t (point_of w) refl h
next_of (AtRange marked c known) w t h = range_next marked c known w t (point_of w) refl h
next_of (AtAs done last points known) w t h = as_next done last points known w t h
next_of (AtKind kind done last marked points type_name known) w t h = kind_next kind done last marked points type_name known w t (sym (kind_step kind (state_at (AtKind kind done last marked points type_name known)) w) ∙ h)

-- ---- all lexemes

-- what is noted of these words, where so many sequences stand before, and so many code points of the sequence
abbrev noted_of : Definitions → ℕ → ℕ → List PlacedWord → Notes
noted_of d s i xs = record { begins = begin_places (points_from s i xs); faults = faults_of d xs (points_from s i xs) }

begins_more : (p : LinePoint) (points : List LinePoint) → begin_places (p ∷ points) ≡ begin_places (p ∷ []) ++ begin_places points
begins_more p points = by (eqb p.index 0)
  where
    by : (b : Bool) → map (λ (q : LinePoint). q.place) (cond b (p ∷ filter (λ q. eqb q.index 0) points) (filter (λ q. eqb q.index 0) points)) ≡ map (λ (q : LinePoint). q.place) (cond b (p ∷ []) []) ++ begin_places points
    by true = refl
    by false = refl

word_more : (d : Definitions) (s i : ℕ) (x : Word) (w : Placed) (xs : List PlacedWord)
    → noted_of d s i (record { word = x; at = w } ∷ xs) ≡ and_notes (word_notes d s i x w) (noted_of d (sequences_after s x) (index_after i x) xs)
word_more d s i (words.Point c) w xs =
    let p : LinePoint = record { place = w.place; point = c; sequence = s; index = i } in
    ap (λ l. record { begins = l; faults = faults_of d (record { word = words.Point c; at = w } ∷ xs) (p ∷ points_from s (i + 1) xs) }) (begins_more p (points_from s (i + 1) xs))
word_more d s i (words.TypeName name) w xs = refl
word_more d s i (words.Rule name) w xs = refl
word_more d s i words.Mark w xs = refl
word_more d s i words.Hyphen w xs = refl
word_more d s i words.Bar w xs = refl
word_more d s i words.Colon w xs = refl
word_more d s i words.Range w xs = refl
word_more d s i words.As w xs = refl
word_more d s i words.When w xs = refl
word_more d s i words.Unless w xs = refl

and_assoc : (a b c : Notes) → and_notes (and_notes a b) c ≡ and_notes a (and_notes b c)
and_assoc a b c =
    let all : List ℕ → Option FaultPlace → Option FaultPlace → Option FaultPlace → Notes = λ l o p q. record { begins = l; faults = record { limit = o; name = p; class = q } } in
    let m = and_notes (and_notes a b) c in
    let n = and_notes a (and_notes b c) in
    ap (λ l. all l m.faults.limit m.faults.name m.faults.class) (append_assoc a.begins b.begins c.begins)
    ∙ ap (λ o. all n.begins o m.faults.name m.faults.class) (or_assoc a.faults.limit b.faults.limit c.faults.limit)
    ∙ ap (λ o. all n.begins n.faults.limit o m.faults.class) (or_assoc a.faults.name b.faults.name c.faults.name)
    ∙ ap (λ o. all n.begins n.faults.limit n.faults.name o) (or_assoc a.faults.class b.faults.class c.faults.class)

-- what was read with lexemes more, which are words
record After (v : Reached) (ws : List (List ℕ)) (t : State) : Type 0 where
  reached : Reached
  state : state_at reached ≡ t
  more : List Word
  are : AreWords more ws
  words : words_at reached ≡ words_at v ++ more
  noted : (d : Definitions) (n : Notes) (ps : List Placed) → unplaced ps ≡ ws → noted_from d n (Some (state_at v)) ps ≡ and_notes n (noted_of d (sequences v) (index v) (placed_words more ps))

none_noted : (v : Reached) (d : Definitions) (n : Notes) (ps : List Placed) → unplaced ps ≡ [] → noted_from d n (Some (state_at v)) ps ≡ and_notes n (noted_of d (sequences v) (index v) (placed_words [] ps))
none_noted v d n [] are = sym (nothing_more n)
none_noted v d n (p ∷ ps) are = absurd cc

first_lexeme : (p : Placed) (ps : List Placed) (w : List ℕ) (ws : List (List ℕ)) → unplaced (p ∷ ps) ≡ w ∷ ws → (p.lexeme ≡ w) × (unplaced ps ≡ ws)
first_lexeme p ps w ws e = (let same : p.lexeme ≡ w = cc in same, let rest : unplaced ps ≡ ws = cc in rest)

noted_more : (v : Reached) (w : List ℕ) (ws : List (List ℕ)) (s t : State) → step (state_at v) w ≡ Some s → (n : Next v w s) (r : After n.reached ws t) (d : Definitions) (notes : Notes) (ps : List Placed) → unplaced ps ≡ w ∷ ws
    → noted_from d notes (Some (state_at v)) ps ≡ and_notes notes (noted_of d (sequences v) (index v) (placed_words (n.word ∷ r.more) ps))
noted_more v w ws s t e n r d notes [] are = absurd cc
noted_more v w ws s t e n r d notes (p ∷ ps) are =
    let is = first_lexeme p ps w ws are in
    let at : List ℕ → Placed = λ u. record { place = p.place; lexeme = u } in
    let word = word_notes d (sequences v) (index v) n.word (at w) in
    let xs = placed_words r.more ps in
    ap (λ u. noted_from d (noted d (state_at v) (at u) notes) (step (state_at v) u) ps) is.0
    ∙ ap (λ o. noted_from d (noted d (state_at v) (at w) notes) o ps) (e ∙ ap (λ x. Some x) (sym n.state))
    ∙ ap (λ m. noted_from d m (Some (state_at n.reached)) ps) (n.noted.here d p.place notes)
    ∙ r.noted d (and_notes notes word) ps is.1
    ∙ ap (λ k. and_notes (and_notes notes word) (noted_of d k (index n.reached) xs)) n.noted.sequences
    ∙ ap (λ k. and_notes (and_notes notes word) (noted_of d (sequences_after (sequences v) n.word) k xs)) n.noted.index
    ∙ and_assoc notes word (noted_of d (sequences_after (sequences v) n.word) (index_after (index v) n.word) xs)
    ∙ ap (and_notes notes) (sym (word_more d (sequences v) (index v) n.word (at w) xs))
    ∙ ap (λ u. and_notes notes (noted_of d (sequences v) (index v) (record { word = n.word; at = at u } ∷ xs))) (sym is.0)

after_next : (v : Reached) (w : List ℕ) (ws : List (List ℕ)) (t : State) (o : Option State) → ((u : Reached) → state_after (Some (state_at u)) ws ≡ Some t → After u ws t) → step (state_at v) w ≡ o → state_after o ws ≡ Some t → After v (w ∷ ws) t
after_next v w ws t None rest e h = no_state t (sym (none_after ws) ∙ h)
after_next v w ws t (Some s) rest e h =
    let n = next_of v w s e in
    let r = rest n.reached (ap (λ x. state_after (Some x) ws) n.state ∙ h) in record {
      reached = r.reached;
      state = r.state;
      more = n.word ∷ r.more;
      are = (n.is, r.are);
      words = r.words ∙ ap (λ l. l ++ r.more) n.words ∙ append_assoc (words_at v) (n.word ∷ []) r.more;
      noted = noted_more v w ws s t e n r;
    }

after_all : (ws : List (List ℕ)) (v : Reached) (t : State) → state_after (Some (state_at v)) ws ≡ Some t → After v ws t
after_all [] v t h = record { reached = v; state = same_state (state_at v) t h; more = []; are = tt; words = sym (append-nil (words_at v)); noted = none_noted v }
after_all (w ∷ ws) v t h = after_next v w ws t (step (state_at v) w) (λ u. after_all ws u t) refl h

-- ---- the form

variants_more : (variants : List Mapped) (n m : Mapped) → variants_words (n ∷ (variants ++ m ∷ [])) ≡ each_words (n ∷ variants) ++ mapped_words m None
variants_more [] n m = sym (append_assoc (mapped_words n None) (words.Colon ∷ []) (mapped_words m None))
variants_more (o ∷ variants) n m =
    ap (λ l. mapped_words n None ++ words.Colon ∷ l) (variants_more variants o m) ∙ sym (append_assoc (mapped_words n None) (words.Colon ∷ each_words (o ∷ variants)) (mapped_words m None))

form_words : (done : List Mapped) (m : Mapped) → entry_words (done ++ m ∷ []) None ≡ done_words done ++ mapped_words m None
form_words [] m = refl
form_words (source ∷ []) m = sym (append_assoc (mapped_words source None) (words.Bar ∷ []) (mapped_words m None))
form_words (source ∷ n ∷ variants) m =
    ap (λ l. mapped_words source None ++ words.Bar ∷ l) (variants_more variants n m) ∙ sym (append_assoc (mapped_words source None) (words.Bar ∷ each_words (n ∷ variants)) (mapped_words m None))

-- the form is one, and has these words
abbrev IsFormOf : List Word → EntryForm → Type 0
IsFormOf xs form = IsForm form.mapped form.last × (entry_words form.mapped form.last ≡ xs)

are_form : (done : List Mapped) (m : Mapped) → AllByRecursion IsMapped (done ++ m ∷ []) → IsForm (done ++ m ∷ []) None
are_form [] m all = all
are_form (n ∷ done) m all = all

end_form : (done : List Mapped) (last : Option ℕ) (m : Mapped) → IsKnown done last m → IsFormOf (done_words done ++ mapped_words m last) (record { mapped = done ++ m ∷ []; last = last })
end_form done None m known = (are_form done m (all_more done m known.all known.mapped), form_words done m)
end_form done (Some c) m known =
    let P : List Mapped → Type 0 = λ l. IsFormOf (done_words l ++ mapped_words m (Some c)) (record { mapped = l ++ m ∷ []; last = Some c }) in
    let range : P [] = ((known.mapped, known.ends.1, known.ends.2), refl) in
    subst P (sym known.ends.0) range

same_form : (e f : EntryForm) → Some e ≡ Some f → e ≡ f
same_form e f h = cc

no_form : {A : Type 0} (form : EntryForm) → None ≡ Some form → A
no_form form e = absurd cc

form_of : (v : Reached) (form : EntryForm) → ended (state_at v) ≡ Some form → IsFormOf (words_at v) form
form_of (AtEnd done last m known) form h =
    let is : EntryForm = record { mapped = done ++ m ∷ []; last = last } in
    subst (IsFormOf (done_words done ++ mapped_words m last)) (same_form is form (sym (form_at done last m) ∙ h)) (end_form done last m known)
form_of (AtBegin done all) form h = no_form form h
form_of (AtMark done all) form h = no_form form h
form_of (AtHyphen done marked c points known) form h = no_form form h
form_of (AtRange marked c known) form h = no_form form h
form_of (AtAs done last points known) form h = no_form form h
form_of (AtKind condition.When done last marked points type_name known) form h = no_form form h
form_of (AtKind condition.Unless done last marked points type_name known) form h = no_form form h

words_of : (ws : List (List ℕ)) (form : EntryForm) (o : Option State) → state_after (Some start) ws ≡ o → entry_at o ≡ Some form → IsForm form.mapped form.last × AreWords (entry_words form.mapped form.last) ws
words_of ws form None e h = no_form form h
words_of ws form (Some s) e h =
    let none : List Mapped = [] in
    let r = after_all ws (AtBegin none tt) s e in
    let is = form_of r.reached form (ap ended r.state ∙ h) in
    (is.0, subst (λ l. AreWords l ws) (sym (is.1 ∙ r.words)) r.are)

-- what is read of lexemes is what the grammar says of them
pub read_words : (form : EntryForm) (ws : List (List ℕ)) → entry_in ws ≡ Some form → IsForm form.mapped form.last × AreWords (entry_words form.mapped form.last) ws
unfolding entry_in
read_words form ws h = words_of ws form (state_after (Some start) ws) refl h

noted_words : (d : Definitions) (ps : List Placed) (form : EntryForm) (o : Option State) → state_after (Some start) (unplaced ps) ≡ o → entry_at o ≡ Some form
    → noted_from d nothing_noted (Some start) ps ≡ noted_of d 0 0 (placed_words (entry_words form.mapped form.last) ps)
noted_words d ps form None e h = no_form form h
noted_words d ps form (Some s) e h =
    let none : List Mapped = [] in
    let r = after_all (unplaced ps) (AtBegin none tt) s e in
    let is = form_of r.reached form (ap ended r.state ∙ h) in
    r.noted d nothing_noted ps refl ∙ ap (λ l. noted_of d 0 0 (placed_words l ps)) (sym (is.1 ∙ r.words))

-- what is noted of lexemes is what is noted of the words that they are
pub form_noted : (d : Definitions) (line : List ℕ) (form : EntryForm) → entry_in (lexemes line) ≡ Some form → noted_from d nothing_noted (Some start) (placed_lexemes line) ≡ notes_of d form line
unfolding entry_in
form_noted d line form h = noted_words d (placed_lexemes line) form (state_after (Some start) (unplaced (placed_lexemes line))) refl (ap (λ ws. entry_at (state_after (Some start) ws)) (unplaced-from 0 line) ∙ h)
