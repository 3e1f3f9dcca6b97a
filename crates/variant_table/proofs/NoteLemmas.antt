-- What is noted of a line is what is wrong with the entries of its form.
use Rattle.std.proofs.Common.{◌≡◌, ℕ, zero, suc, ◌+◌, ◌<◌, ◌≤◌, nat_lt, ◌==◌, Bool, true, false, cond, not, ◌||◌, ◌&&◌, List, [], ◌∷◌, ◌++◌, length, Option, Some, None, refl, sym, ap, subst, ◌∙◌, append_assoc, append-nil, length-append, arith}
use Rattle.std.specs.Prelude.{filter, is_some, map, option_map, slice_get, slice_index}
use Rattle.std.proofs.lemmas.List.{length-map}
use Rattle.std.specs.List.{AllByRecursion, list_any, range_with_len}
use Rattle.std.proofs.lemmas.Bool.Decides.{nat_tests}
use Rattle.std.proofs.lemmas.List.Folds.{list_any-append}
use Rattle.idn_class.specs.declared.properties.Properties.{Properties}
use Rattle.label_patterns.specs.declared.condition.ConditionKind.{ConditionKind}
use Rattle.label_patterns.specs.declared.condition.ConditionKind.TheVariants as condition
use Rattle.ruleset_text.specs.declared.named_condition.NamedCondition.{NamedCondition}
use Rattle.ruleset_text.specs.declared.entry_notes.LinePoint.{LinePoint}
use Rattle.ruleset_text.specs.declared.fault.FaultPlace.{FaultPlace}
use Rattle.ruleset_text.specs.declared.fault.FaultPlace.TheVariants.{InRange, NinthPoint, Point, SeventeenthVariant, Source, Variant as VariantPlace}
use Rattle.ruleset_text.specs.Classes.{is_bad_point}
use Rattle.ruleset_text.specs.Definitions.{Definitions, type_names}
use Rattle.ruleset_text.specs.Entries.{Mapped, EntryForm}
use Rattle.ruleset_text.specs.EntryFaults.{Notes, PlacedWord, begin_places, line_points, notes_of, past_place, placed_words, points_from, range_place, source_place, unknown_place, variant_place, with_point as with_line_point}
use Rattle.ruleset_text.specs.EntrySteps.{entry_in}
use Rattle.ruleset_text.specs.EntryText.{IsSequence, IsMapped, IsForm}
use Rattle.ruleset_text.specs.EntryWords as words
use Rattle.ruleset_text.specs.EntryWords.{Word, AreWords, mark_words, sequence_words, last_words, type_words, kind_word, condition_words, mapped_words, variants_words, entry_words}
use Rattle.ruleset_text.specs.Lexemes.{lexemes}
use Rattle.ruleset_text.specs.LineFaults.{bad_place, first_told, lexeme_place, unknown_in}
use Rattle.ruleset_text.specs.Names.{is_one_of}
use Rattle.ruleset_text.specs.PlacedLexemes.{Placed, placed_lexemes, unplaced}
use Rattle.ruleset_text.proofs.EntrySpelledLemmas.{read_words}
use Rattle.ruleset_text.proofs.LineFaultLemmas.{either_some}
use Rattle.ruleset_text.proofs.PlacedLemmas.{unplaced-from}
use Rattle.variant_table.specs.Conditions.{first_again, given_again, has_bad_class, has_bad_point, has_repeat, is_too_large, stands_in}
use Rattle.variant_table.specs.Entries.{Variant, itself, sequences_in}
use Rattle.variant_table.specs.Forms.{entries_of, entry_of, knows_all, knows_names, knows_rule, knows_type, variant_mark, variant_by, with_point, written_to}
use Rattle.variant_table.specs.LinePlaces.{AreFaultsOf, bad_in, class_by, class_place}
use Rattle.variant_table.specs.Ranges.{range_size}
use Rattle.variant_table.proofs.RangeLemmas.{some_found}

-- ---- code points without their places

pub record Numbered : Type 0 where
  pub point : ℕ
  pub sequence : ℕ
  pub index : ℕ

abbrev pub numbered : LinePoint → Numbered
numbered p = record { point = p.point; sequence = p.sequence; index = p.index }

-- those of a sequence of this number, from an index on
abbrev pub sequence_points : ℕ → ℕ → List ℕ → List Numbered
sequence_points s i [] = []
sequence_points s i (c ∷ cs) = record { point = c; sequence = s; index = i } ∷ sequence_points s (i + 1) cs

-- those of sequences, from this number on
abbrev pub mapped_points : ℕ → List Mapped → List Numbered
mapped_points s [] = []
mapped_points s (m ∷ ms) = sequence_points s 0 m.points ++ mapped_points (s + 1) ms

-- those of a form: the last code point of a range comes after its first
abbrev pub form_points : Option ℕ → List Mapped → List Numbered
form_points None ms = mapped_points 0 ms
form_points (Some last) [] = []
form_points (Some last) (m ∷ ms) = sequence_points 0 0 m.points ++ record { point = last; sequence = 0; index = 1 } ∷ []

-- ---- those of words

abbrev with_numbered : ℕ → ℕ → Word → (ℕ → ℕ → List Numbered) → List Numbered
with_numbered s i (words.Point c) rest = record { point = c; sequence = s; index = i } ∷ rest s (i + 1)
with_numbered s i words.Bar rest = rest (s + 1) 0
with_numbered s i words.Colon rest = rest (s + 1) 0
with_numbered s i x rest = rest s i

abbrev points_at : ℕ → ℕ → List Word → List Numbered
points_at s i [] = []
points_at s i (x ∷ xs) = with_numbered s i x (λ t j. points_at t j xs)

placed_point : (x : Word) (w : Placed) (s i : ℕ) (f : ℕ → ℕ → List LinePoint) (g : ℕ → ℕ → List Numbered) → ((t j : ℕ) → map numbered (f t j) ≡ g t j) → map numbered (with_line_point s i x w f) ≡ with_numbered s i x g
placed_point (words.Point c) w s i f g h = ap (λ (l : List Numbered). record { point = c; sequence = s; index = i } ∷ l) (h s (i + 1))
placed_point (words.TypeName name) w s i f g h = h s i
placed_point (words.Rule name) w s i f g h = h s i
placed_point words.Mark w s i f g h = h s i
placed_point words.Hyphen w s i f g h = h s i
placed_point words.Bar w s i f g h = h (s + 1) 0
placed_point words.Colon w s i f g h = h (s + 1) 0
placed_point words.Range w s i f g h = h s i
placed_point words.As w s i f g h = h s i
placed_point words.When w s i f g h = h s i
placed_point words.Unless w s i f g h = h s i

points_placed : (xs : List Word) (ws : List Placed) (s i : ℕ) → AreWords xs (unplaced ws) → map numbered (points_from s i (placed_words xs ws)) ≡ points_at s i xs
points_placed [] ws s i are = refl
points_placed (x ∷ xs) [] s i are = absurd are
points_placed (x ∷ xs) (w ∷ ws) s i are = placed_point x w s i (λ t j. points_from t j (placed_words xs ws)) (λ t j. points_at t j xs) (λ t j. points_placed xs ws t j are.1)

-- ---- the code points of a form

module _ (s : ℕ) where
  mark_points : (marked : Bool) (i : ℕ) (rest : List Word) → points_at s i (mark_words marked ++ rest) ≡ points_at s i rest
  mark_points true i rest = refl
  mark_points false i rest = refl

  points_of : (points : List ℕ) (c i : ℕ) (rest : List Word) (ps : List Numbered) → ((j : ℕ) → points_at s j rest ≡ ps) → points_at s i (sequence_words (c ∷ points) ++ rest) ≡ sequence_points s i (c ∷ points) ++ ps
  points_of [] c i rest ps h = ap (λ (l : List Numbered). record { point = c; sequence = s; index = i } ∷ l) (h (i + 1))
  points_of (d ∷ points) c i rest ps h = ap (λ (l : List Numbered). record { point = c; sequence = s; index = i } ∷ l) (points_of points d (i + 1) rest ps h)

  type_points : (name : Option (List ℕ)) (i : ℕ) (rest : List Word) → points_at s i (type_words name ++ rest) ≡ points_at s i rest
  type_points None i rest = refl
  type_points (Some name) i rest = refl

  condition_points : (o : Option NamedCondition) (i : ℕ) (rest : List Word) → points_at s i (condition_words o ++ rest) ≡ points_at s i rest
  condition_points None i rest = refl
  condition_points (Some c) i rest = by c.kind
    where
      by : (k : ConditionKind) → points_at s i (kind_word k ∷ words.Rule c.rule ∷ rest) ≡ points_at s i rest
      by condition.When = refl
      by condition.Unless = refl

  regroup : (a b c d e rest : List Word) → (a ++ (b ++ (c ++ (d ++ e)))) ++ rest ≡ a ++ (b ++ (c ++ (d ++ (e ++ rest))))
  regroup a b c d e rest = simp append_assoc

  mapped_are : (m : Mapped) (rest : List Word) (ps : List Numbered) → IsMapped m → ((j : ℕ) → points_at s j rest ≡ ps) → points_at s 0 (mapped_words m None ++ rest) ≡ sequence_points s 0 m.points ++ ps
  mapped_are m rest ps is h =
      ap (points_at s 0) (regroup (mark_words m.marked) (sequence_words m.points) [] (type_words m.type_name) (condition_words m.condition) rest)
      ∙ mark_points m.marked 0 (sequence_words m.points ++ others) ∙ by m.points is.sequence
    where
      others : List Word
      others = type_words m.type_name ++ (condition_words m.condition ++ rest)

      by : (points : List ℕ) → IsSequence points → points_at s 0 (sequence_words points ++ others) ≡ sequence_points s 0 points ++ ps
      by [] is = absurd is
      by (c ∷ points) is = points_of points c 0 others ps (λ j. type_points m.type_name j (condition_words m.condition ++ rest) ∙ condition_points m.condition j rest ∙ h j)

  last_are : (m : Mapped) → IsMapped m → points_at s 0 (mapped_words m None) ≡ sequence_points s 0 m.points ++ []
  last_are m is = ap (points_at s 0) (sym (append-nil (mapped_words m None))) ∙ mapped_are m [] [] is (λ j. refl)

variants_are : (ms : List Mapped) (m : Mapped) (s : ℕ) → AllByRecursion IsMapped (m ∷ ms) → points_at s 0 (variants_words (m ∷ ms)) ≡ mapped_points s (m ∷ ms)
variants_are [] m s are = last_are s m are.0
variants_are (n ∷ ms) m s are = mapped_are s m (words.Colon ∷ variants_words (n ∷ ms)) (mapped_points (s + 1) (n ∷ ms)) are.0 (λ j. variants_are ms n (s + 1) are.1)

range_are : (m : Mapped) (last first : ℕ) → m.points ≡ first ∷ [] → points_at 0 0 (mapped_words m (Some last)) ≡ sequence_points 0 0 m.points ++ record { point = last; sequence = 0; index = 1 } ∷ []
range_are m last first is =
    mark_points 0 m.marked 0 (sequence_words m.points ++ (words.Range ∷ words.Point last ∷ others))
    ∙ ap (λ points. points_at 0 0 (sequence_words points ++ (words.Range ∷ words.Point last ∷ others))) is
    ∙ ap (λ (l : List Numbered). record { point = first; sequence = 0; index = 0 } ∷ record { point = last; sequence = 0; index = 1 } ∷ l)
    (type_points 0 m.type_name 2 (condition_words m.condition) ∙ ap (points_at 0 2) (sym (append-nil (condition_words m.condition))) ∙ condition_points 0 m.condition 2 [])
    ∙ ap (λ points. sequence_points 0 0 points ++ record { point = last; sequence = 0; index = 1 } ∷ []) (sym is)
  where
    others : List Word
    others = type_words m.type_name ++ condition_words m.condition

form_are : (ms : List Mapped) (last : Option ℕ) → IsForm ms last → points_at 0 0 (entry_words ms last) ≡ form_points last ms
form_are [] last is = absurd is
form_are (m ∷ []) None is = last_are 0 m is.0
form_are (m ∷ n ∷ ms) None is = mapped_are 0 m (words.Bar ∷ variants_words (n ∷ ms)) (mapped_points 1 (n ∷ ms)) is.0 (λ j. variants_are ms n 1 is.1)
form_are (m ∷ []) (Some last) is = range_are m last is.2.0 is.2.1
form_are (m ∷ n ∷ ms) (Some last) is = absurd is

-- ---- some of a list

told_any : {X : Type 0} (f : X → Option FaultPlace) (xs : List X) → is_some (first_told f xs) ≡ list_any (λ x. is_some (f x)) xs
told_any f [] = refl
told_any f (x ∷ xs) = either_some (f x) (first_told f xs) ∙ ap (λ b. is_some (f x) || b) (told_any f xs)

any_same : (f : LinePoint → Bool) (p : Numbered → Bool) → ((x : LinePoint) → f x ≡ p (numbered x)) → (xs : List LinePoint) → list_any f xs ≡ list_any p (map numbered xs)
any_same f p same [] = refl
any_same f p same (x ∷ xs) = ap (λ b. b || list_any f xs) (same x) ∙ ap (λ b. p (numbered x) || b) (any_same f p same xs)

or_false : (a : Bool) → (a || false) ≡ a
or_false true = refl
or_false false = refl

swapped : (a b c : Bool) → (a || (b || c)) ≡ (b || (a || c))
swapped true true c = refl
swapped true false c = refl
swapped false true c = refl
swapped false false c = refl

-- ---- past a limit

abbrev past : Numbered → Bool
past n = n.index == 8 || n.sequence == 17

is_past : (p : LinePoint) → is_some (past_place p) ≡ past (numbered p)
is_past p = by (p.index == 8) (p.sequence == 17)
  where
    by : (a b : Bool) → is_some (cond a (Some (NinthPoint p.place p.point)) (cond b (Some (SeventeenthVariant p.place p.point)) None)) ≡ (a || b)
    by true b = refl
    by false true = refl
    by false false = refl

none_past : (i : ℕ) → i ≤ 8 → false ≡ nat_lt 8 (i + 0)
none_past i l = grind (arith, nat_tests)

ninth_past : (i n : ℕ) → (i == 8) ≡ true → true ≡ nat_lt 8 (i + suc n)
ninth_past i n e = grind (arith, nat_tests)

earlier : (i : ℕ) → i ≤ 8 → (i == 8) ≡ false → i + 1 ≤ 8
earlier i l e = grind (arith, nat_tests)

one_later : (most i n : ℕ) → nat_lt most (i + 1 + n) ≡ nat_lt most (i + suc n)
one_later most i n = ap (nat_lt most) (let same : i + 1 + n ≡ i + suc n = omega arith in same)

sequence_past : (cs : List ℕ) (s i : ℕ) → i ≤ 8 → (s == 17) ≡ false → list_any past (sequence_points s i cs) ≡ nat_lt 8 (i + length cs)
sequence_past [] s i l e = none_past i l
sequence_past (c ∷ cs) s i l e =
    ap (λ b. (i == 8 || b) || list_any past (sequence_points s (i + 1) cs)) e ∙ by (i == 8) refl (λ few. sequence_past cs s (i + 1) few e)
  where
    by : (b : Bool) → (i == 8) ≡ b → (i + 1 ≤ 8 → list_any past (sequence_points s (i + 1) cs) ≡ nat_lt 8 (i + 1 + length cs))
        → ((b || false) || list_any past (sequence_points s (i + 1) cs)) ≡ nat_lt 8 (i + suc (length cs))
    by true h rest = ninth_past i (length cs) h
    by false h rest = rest (earlier i l h) ∙ one_later 8 i (length cs)

from_none : (most n : ℕ) → nat_lt most (0 + n) ≡ nat_lt most n
from_none most n = ap (nat_lt most) (let same : 0 + n ≡ n = omega arith in same)

abbrev is_long : Mapped → Bool
is_long m = nat_lt 8 (length m.points)

none_more : (s : ℕ) → s ≤ 17 → false ≡ (nat_lt 17 (s + 0) || false)
none_more s l = grind (arith, nat_tests)

last_more : (s n : ℕ) → (s == 17) ≡ true → true ≡ nat_lt 17 (s + suc n)
last_more s n e = grind (arith, nat_tests)

fewer : (s : ℕ) → s ≤ 17 → (s == 17) ≡ false → s + 1 ≤ 17
fewer s l e = grind (arith, nat_tests)

mapped_past : (ms : List Mapped) (s : ℕ) → s ≤ 17 → AllByRecursion IsMapped ms → list_any past (mapped_points s ms) ≡ (nat_lt 17 (s + length ms) || list_any is_long ms)
mapped_past [] s l are = none_more s l
mapped_past (m ∷ ms) s l are =
    list_any-append past (sequence_points s 0 m.points) (mapped_points (s + 1) ms) ∙ by (s == 17) refl (λ few. mapped_past ms (s + 1) few are.1)
  where
    first : (s == 17) ≡ true → (points : List ℕ) → IsSequence points → list_any past (sequence_points s 0 points) ≡ true
    first e [] is = absurd is
    first e (c ∷ points) is = ap (λ b. b || list_any past (sequence_points s 1 points)) e

    by : (b : Bool) → (s == 17) ≡ b → (s + 1 ≤ 17 → list_any past (mapped_points (s + 1) ms) ≡ (nat_lt 17 (s + 1 + length ms) || list_any is_long ms))
        → (list_any past (sequence_points s 0 m.points) || list_any past (mapped_points (s + 1) ms)) ≡ (nat_lt 17 (s + suc (length ms)) || (is_long m || list_any is_long ms))
    by true e rest =
        ap (λ b. b || list_any past (mapped_points (s + 1) ms)) (first e m.points are.0.sequence)
        ∙ ap (λ b. b || (is_long m || list_any is_long ms)) (last_more s (length ms) e)
    by false e rest =
        ap (λ b. b || list_any past (mapped_points (s + 1) ms)) (sequence_past m.points s 0 (omega arith) e ∙ from_none 8 (length m.points))
        ∙ ap (λ b. is_long m || b) (rest (fewer s l e) ∙ ap (λ b. b || list_any is_long ms) (one_later 17 s (length ms)))
        ∙ swapped (is_long m) (nat_lt 17 (s + suc (length ms))) (list_any is_long ms)

one_small : (m : Mapped) (cs : List ℕ) → list_any is_too_large (map (λ c. with_point m c ∷ []) cs) ≡ false
one_small m [] = refl
one_small m (c ∷ cs) = one_small m cs

form_past : (ms : List Mapped) (last : Option ℕ) → IsForm ms last → list_any past (form_points last ms) ≡ list_any is_too_large (written_to last ms)
form_past [] last is = absurd is
form_past (m ∷ ms) None is = mapped_past (m ∷ ms) 0 (omega arith) is ∙ ap (λ b. b || list_any is_long (m ∷ ms)) (from_none 17 (length (m ∷ ms))) ∙ sym (or_false (is_too_large (m ∷ ms)))
form_past (m ∷ []) (Some last) is =
    ap (λ points. list_any past (sequence_points 0 0 points ++ record { point = last; sequence = 0; index = 1 } ∷ [])) is.2.1
    ∙ sym (one_small m (range_with_len (slice_index m.points 0) (range_size (slice_index m.points 0) last)))
form_past (m ∷ n ∷ ms) (Some last) is = absurd is

-- ---- names

module _ (d : Definitions) where
  abbrev unknown : Word → Bool
  unknown (words.TypeName name) = not (is_one_of (type_names d) name)
  unknown (words.Rule name) = not (is_one_of d.rule_names name)
  unknown x = false

  is_unknown : (names : List (List ℕ)) (name : List ℕ) (w : Placed) → is_some (unknown_in names name w) ≡ not (is_one_of names name)
  is_unknown names name w = by (is_one_of names name)
    where
      by : (b : Bool) → is_some (cond b None (Some (lexeme_place w))) ≡ not b
      by true = refl
      by false = refl

  word_unknown : (x : Word) (w : Placed) → is_some (unknown_place d x w) ≡ unknown x
  word_unknown (words.TypeName name) w = is_unknown (type_names d) name w
  word_unknown (words.Rule name) w = is_unknown d.rule_names name w
  word_unknown (words.Point c) w = refl
  word_unknown words.Mark w = refl
  word_unknown words.Hyphen w = refl
  word_unknown words.Bar w = refl
  word_unknown words.Colon w = refl
  word_unknown words.Range w = refl
  word_unknown words.As w = refl
  word_unknown words.When w = refl
  word_unknown words.Unless w = refl

  words_unknown : (xs : List Word) (ws : List Placed) → AreWords xs (unplaced ws) → is_some (first_told (λ (x : PlacedWord). unknown_place d x.word x.at) (placed_words xs ws)) ≡ list_any unknown xs
  words_unknown [] ws are = refl
  words_unknown (x ∷ xs) [] are = absurd are
  words_unknown (x ∷ xs) (w ∷ ws) are =
      either_some (unknown_place d x w) (first_told (λ (y : PlacedWord). unknown_place d y.word y.at) (placed_words xs ws))
      ∙ ap (λ b. b || is_some (first_told (λ (y : PlacedWord). unknown_place d y.word y.at) (placed_words xs ws))) (word_unknown x w) ∙ ap (λ b. unknown x || b) (words_unknown xs ws are.1)

  mark_known : (marked : Bool) → list_any unknown (mark_words marked) ≡ false
  mark_known true = refl
  mark_known false = refl

  points_known : (points : List ℕ) → list_any unknown (sequence_words points) ≡ false
  points_known [] = refl
  points_known (c ∷ []) = refl
  points_known (c ∷ e ∷ points) = points_known (e ∷ points)

  last_known : (last : Option ℕ) → list_any unknown (last_words last) ≡ false
  last_known None = refl
  last_known (Some c) = refl

  type_unknown : (name : Option (List ℕ)) → list_any unknown (type_words name) ≡ not (knows_type d name)
  type_unknown None = refl
  type_unknown (Some name) = or_false (not (is_one_of (type_names d) name))

  condition_unknown : (o : Option NamedCondition) → list_any unknown (condition_words o) ≡ not (knows_rule d o)
  condition_unknown None = refl
  condition_unknown (Some c) = by c.kind ∙ or_false (not (is_one_of d.rule_names c.rule))
    where
      by : (k : ConditionKind) → list_any unknown (kind_word k ∷ words.Rule c.rule ∷ []) ≡ (not (is_one_of d.rule_names c.rule) || false)
      by condition.When = refl
      by condition.Unless = refl

  none_before : (a b : List Word) → list_any unknown a ≡ false → list_any unknown (a ++ b) ≡ list_any unknown b
  none_before a b h = list_any-append unknown a b ∙ ap (λ x. x || list_any unknown b) h

  not_both : (a b : Bool) → (not a || not b) ≡ not (a && b)
  not_both true b = refl
  not_both false b = refl

  mapped_unknown : (m : Mapped) (last : Option ℕ) → list_any unknown (mapped_words m last) ≡ not (knows_names d m)
  mapped_unknown m last =
      let names = type_words m.type_name ++ condition_words m.condition in
      none_before (mark_words m.marked) (sequence_words m.points ++ (last_words last ++ names)) (mark_known m.marked)
      ∙ none_before (sequence_words m.points) (last_words last ++ names) (points_known m.points) ∙ none_before (last_words last) names (last_known last)
      ∙ list_any-append unknown (type_words m.type_name) (condition_words m.condition)
      ∙ ap (λ b. b || list_any unknown (condition_words m.condition)) (type_unknown m.type_name) ∙ ap (λ b. not (knows_type d m.type_name) || b) (condition_unknown m.condition)
      ∙ not_both (knows_type d m.type_name) (knows_rule d m.condition)

  and_true : (a : Bool) → not a ≡ not (a && true)
  and_true true = refl
  and_true false = refl

  more_unknown : (m : Mapped) (last : Option ℕ) (x : Word) (xs : List Word) (ms : List Mapped) → unknown x ≡ false → list_any unknown xs ≡ not (knows_all d ms) → list_any unknown (mapped_words m last ++ x ∷ xs) ≡ not (knows_all d (m ∷ ms))
  more_unknown m last x xs ms known h =
      list_any-append unknown (mapped_words m last) (x ∷ xs) ∙ ap (λ b. b || list_any unknown (x ∷ xs)) (mapped_unknown m last) ∙ ap (λ b. not (knows_names d m) || (b || list_any unknown xs)) known
      ∙ ap (λ b. not (knows_names d m) || b) h ∙ not_both (knows_names d m) (knows_all d ms)

  variants_unknown : (ms : List Mapped) (m : Mapped) → list_any unknown (variants_words (m ∷ ms)) ≡ not (knows_all d (m ∷ ms))
  variants_unknown [] m = mapped_unknown m None ∙ and_true (knows_names d m)
  variants_unknown (n ∷ ms) m = more_unknown m None words.Colon (variants_words (n ∷ ms)) (n ∷ ms) refl (variants_unknown ms n)

  form_unknown : (ms : List Mapped) (last : Option ℕ) → list_any unknown (entry_words ms last) ≡ not (knows_all d ms)
  form_unknown [] last = refl
  form_unknown (m ∷ []) last = mapped_unknown m last ∙ and_true (knows_names d m)
  form_unknown (m ∷ n ∷ ms) last = more_unknown m last words.Bar (variants_words (n ∷ ms)) (n ∷ ms) refl (variants_unknown ms n)

-- ---- classes

module _ (properties : Properties) where
  abbrev bad : Numbered → Bool
  bad n = is_bad_point properties n.point

  is_bad : (place c : ℕ) → is_some (bad_place properties place (Some c)) ≡ is_bad_point properties c
  is_bad place c = by (is_bad_point properties c)
    where
      by : (b : Bool) → is_some (cond b (Some (Point place c)) None) ≡ b
      by true = refl
      by false = refl

  sequence_bad : (cs : List ℕ) (s i : ℕ) → list_any bad (sequence_points s i cs) ≡ has_bad_point properties cs
  sequence_bad [] s i = refl
  sequence_bad (c ∷ cs) s i = ap (λ b. is_bad_point properties c || b) (sequence_bad cs s (i + 1))

  mapped_bad : (ms : List Mapped) (d : Definitions) (s : ℕ) → list_any bad (mapped_points s ms) ≡ list_any (has_bad_point properties) (sequences_in (map (variant_by variant_mark d) ms))
  mapped_bad [] d s = refl
  mapped_bad (m ∷ ms) d s =
      list_any-append bad (sequence_points s 0 m.points) (mapped_points (s + 1) ms) ∙ ap (λ b. b || list_any bad (mapped_points (s + 1) ms)) (sequence_bad m.points s 0)
      ∙ ap (λ b. has_bad_point properties m.points || b) (mapped_bad ms d (s + 1))

  form_bad : (ms : List Mapped) (last : Option ℕ) (d : Definitions) → IsForm ms last → last ≡ None → list_any bad (form_points last ms) ≡ list_any (has_bad_class properties) (map (entry_of d) (written_to last ms))
  form_bad [] last d is none = absurd is
  form_bad (m ∷ ms) None d is none = mapped_bad (m ∷ ms) d 0 ∙ sym (or_false (has_bad_class properties (entry_of d (m ∷ ms))))
  form_bad (m ∷ ms) (Some last) d is none = absurd cc

  one_bad : (b : Bool) → ((b || false) || false) ≡ b
  one_bad true = refl
  one_bad false = refl

  pub range_bad : (m : Mapped) (d : Definitions) (cs : List ℕ) → list_any (is_bad_point properties) cs ≡ list_any (has_bad_class properties) (map (entry_of d) (map (λ c. with_point m c ∷ []) cs))
  range_bad m d [] = refl
  range_bad m d (c ∷ cs) =
      ap (λ b. b || list_any (is_bad_point properties) cs) (sym (one_bad (is_bad_point properties c))) ∙ ap (λ b. ((is_bad_point properties c || false) || false) || b) (range_bad m d cs)

-- ---- a line

pub line_spells : (line : List ℕ) (form : EntryForm) → entry_in (lexemes line) ≡ Some form → IsForm form.mapped form.last × AreWords (entry_words form.mapped form.last) (unplaced (placed_lexemes line))
line_spells line form e =
    let read = read_words form (lexemes line) e in (read.0, subst (AreWords (entry_words form.mapped form.last)) (sym (unplaced-from 0 line)) read.1)

pub points_are : (line : List ℕ) (form : EntryForm) → entry_in (lexemes line) ≡ Some form → map numbered (line_points form line) ≡ form_points form.last form.mapped
points_are line form e =
    let is = line_spells line form e in points_placed (entry_words form.mapped form.last) (placed_lexemes line) 0 0 is.1 ∙ form_are form.mapped form.last is.0

-- the faults that are noted of a line are those of its form
pub faults_are : (d : Definitions) (line : List ℕ) (form : EntryForm) → entry_in (lexemes line) ≡ Some form → AreFaultsOf d form (notes_of d form line).faults
faults_are d line form e =
    let is = line_spells line form e in
    let points = line_points form line in
    record {
      limit = told_any past_place points ∙ any_same (λ p. is_some (past_place p)) past is_past points ∙ ap (list_any past) (points_are line form e) ∙ form_past form.mapped form.last is.0;
      name = words_unknown d (entry_words form.mapped form.last) (placed_lexemes line) is.1 ∙ form_unknown d form.mapped form.last;
      class = λ none. told_any (λ p. bad_place d.properties p.place (Some p.point)) points
          ∙ any_same (λ p. is_some (bad_place d.properties p.place (Some p.point))) (bad d.properties) (λ p. is_bad d.properties p.place p.point) points
          ∙ ap (list_any (bad d.properties)) (points_are line form e) ∙ form_bad d.properties form.mapped form.last d is.0 none;
    }

-- ---- where sequences begin

abbrev is_first : Numbered → Bool
is_first n = n.index == 0

begins_counted : (points : List LinePoint) → length (begin_places points) ≡ length (filter is_first (map numbered points))
begins_counted [] = refl
begins_counted (p ∷ points) = by (p.index == 0) (begins_counted points)
  where
    by : (b : Bool) → length (begin_places points) ≡ length (filter is_first (map numbered points))
        → length (map (λ (q : LinePoint). q.place) (cond b (p ∷ filter (λ q. q.index == 0) points) (filter (λ q. q.index == 0) points)))
        ≡ length (cond b (numbered p ∷ filter is_first (map numbered points)) (filter is_first (map numbered points)))
    by true rest = ap suc rest
    by false rest = rest

later_none : (i : ℕ) → (i + 1 == 0) ≡ false
later_none i = grind (arith, nat_tests)

later : (cs : List ℕ) (s i : ℕ) (ps : List Numbered) → filter is_first (sequence_points s (i + 1) cs ++ ps) ≡ filter is_first ps
later [] s i ps = refl
later (c ∷ cs) s i ps =
    let rest : List Numbered = sequence_points s (i + 1 + 1) cs ++ ps in
    ap (λ b. cond b (record { point = c; sequence = s; index = i + 1 } ∷ filter is_first rest) (filter is_first rest)) (later_none i) ∙ later cs s (i + 1) ps

mapped_begins : (ms : List Mapped) (s : ℕ) → AllByRecursion IsMapped ms → length (filter is_first (mapped_points s ms)) ≡ length ms
mapped_begins [] s are = refl
mapped_begins (m ∷ ms) s are = by m.points are.0.sequence (mapped_begins ms (s + 1) are.1)
  where
    by : (points : List ℕ) → IsSequence points → length (filter is_first (mapped_points (s + 1) ms)) ≡ length ms → length (filter is_first (sequence_points s 0 points ++ mapped_points (s + 1) ms)) ≡ suc (length ms)
    by [] is rest = absurd is
    by (c ∷ cs) is rest = ap suc (ap length (later cs s 0 (mapped_points (s + 1) ms)) ∙ rest)

form_begins : (ms : List Mapped) (last : Option ℕ) → IsForm ms last → length (filter is_first (form_points last ms)) ≡ length ms
form_begins [] last is = absurd is
form_begins (m ∷ ms) None is = mapped_begins (m ∷ ms) 0 is
form_begins (m ∷ []) (Some last) is = ap (λ points. length (filter is_first (sequence_points 0 0 points ++ record { point = last; sequence = 0; index = 1 } ∷ []))) is.2.1
form_begins (m ∷ n ∷ ms) (Some last) is = absurd is

begins_are : (d : Definitions) (line : List ℕ) (form : EntryForm) → entry_in (lexemes line) ≡ Some form → length (notes_of d form line).begins ≡ length form.mapped
begins_are d line form e =
    begins_counted (line_points form line) ∙ ap (λ ps. length (filter is_first ps)) (points_are line form e) ∙ form_begins form.mapped form.last (line_spells line form e).0

-- ---- the places of a form

some_at : (xs : List ℕ) (n : ℕ) → n < length xs → is_some (slice_get xs n) ≡ true
some_at [] n l = absurd (omega (arith, l))
some_at (x ∷ xs) zero l = refl
some_at (x ∷ xs) (suc n) l = some_at xs n (omega (arith, l))

some_map : {X Y : Type 0} (f : X → Y) (o : Option X) → is_some (option_map f o) ≡ is_some o
some_map f None = refl
some_map f (Some x) = refl

pub again_bound : (variants before : List Variant) (n : ℕ) → first_again before variants ≡ Some n → n < length before + length variants
again_bound [] before n e = absurd cc
again_bound (v ∷ variants) before n e = by (stands_in before v) e (λ h. again_bound variants (before ++ v ∷ []) n h)
  where
    by : (b : Bool) → cond b (Some (length before)) (first_again (before ++ v ∷ []) variants) ≡ Some n → (first_again (before ++ v ∷ []) variants ≡ Some n → n < length (before ++ v ∷ []) + length variants)
        → n < length before + suc (length variants)
    by true h rest = let same : length before ≡ n = cc in omega (arith, same)
    by false h rest = omega (arith, rest h, length-append before (v ∷ []))

variant_told : (begins : List ℕ) (o : Option ℕ) → ((n : ℕ) → o ≡ Some n → n < length begins) → is_some (variant_place begins o) ≡ is_some o
variant_told begins None within = refl
variant_told begins (Some n) within = some_map VariantPlace (slice_get begins n) ∙ some_at begins n (within n refl)

range_told : (begins : List ℕ) (o : Option ℕ) → 0 < length begins → is_some (range_place begins o) ≡ is_some o
range_told begins None some = refl
range_told begins (Some c) some = some_map (λ place. InRange place c) (slice_get begins 0) ∙ some_at begins 0 some

pub one_alone : (d : Definitions) (m : Mapped) (cs : List ℕ) → list_any has_repeat (map (entry_of d) (map (λ c. with_point m c ∷ []) cs)) ≡ false
one_alone d m [] = refl
one_alone d m (c ∷ cs) = one_alone d m cs

pub form_again : (d : Definitions) (ms : List Mapped) (last : Option ℕ) → IsForm ms last → is_some (given_again (entry_of d ms)) ≡ list_any has_repeat (map (entry_of d) (written_to last ms))
form_again d [] last is = absurd is
form_again d (m ∷ ms) None is = sym (or_false (has_repeat (entry_of d (m ∷ ms))))
form_again d (m ∷ []) (Some last) is = sym (one_alone d m (range_with_len (slice_index m.points 0) (range_size (slice_index m.points 0) last)))
form_again d (m ∷ n ∷ ms) (Some last) is = absurd is

pub variants_counted : (d : Definitions) (ms : List Mapped) → 0 < length ms → length (itself (entry_of d ms) ∷ (entry_of d ms).variants) ≡ length ms
variants_counted d [] l = absurd (omega (arith, l))
variants_counted d (m ∷ ms) l = ap suc (length-map ms (variant_by variant_mark d))

pub some_form : (ms : List Mapped) (last : Option ℕ) → IsForm ms last → 0 < length ms
some_form [] last is = absurd is
some_form (m ∷ ms) last is = omega arith

form_class : (d : Definitions) (form : EntryForm) (notes : Notes) → IsForm form.mapped form.last → length notes.begins ≡ length form.mapped → AreFaultsOf d form notes.faults
    → is_some (class_place d form notes) ≡ list_any (has_bad_class d.properties) (entries_of d form)
form_class d form notes is begins are = by form.mapped form.last refl is begins
  where
    by : (ms : List Mapped) (last : Option ℕ) → form ≡ record { mapped = ms; last = last } → IsForm ms last → length notes.begins ≡ length ms
        → is_some (class_by d ms last notes) ≡ list_any (has_bad_class d.properties) (map (entry_of d) (written_to last ms))
    by ms None e h n = are.class (ap (λ (f : EntryForm). f.last) e) ∙ ap (λ f. list_any (has_bad_class d.properties) (entries_of d f)) e
    by [] (Some last) e h n = absurd h
    by (m ∷ []) (Some last) e h n =
        let points = range_with_len (slice_index m.points 0) (range_size (slice_index m.points 0) last) in
        range_told notes.begins (bad_in d.properties (m ∷ []) last) (omega (arith, n)) ∙ some_found (is_bad_point d.properties) points ∙ range_bad d.properties m d points
    by (m ∷ o ∷ ms) (Some last) e h n = absurd h

-- a place is told exactly where reading refuses
module _ (d : Definitions) (line : List ℕ) (form : EntryForm) (e : entry_in (lexemes line) ≡ Some form) where
  abbrev notes : Notes
  notes = notes_of d form line

  pub class_told : is_some (class_place d form notes) ≡ list_any (has_bad_class d.properties) (entries_of d form)
  class_told = form_class d form notes (line_spells line form e).0 (begins_are d line form e) (faults_are d line form e)

  pub again_told : is_some (variant_place notes.begins (given_again (entry_of d form.mapped))) ≡ list_any has_repeat (entries_of d form)
  again_told =
      variant_told notes.begins (given_again (entry_of d form.mapped)) within ∙ form_again d form.mapped form.last (line_spells line form e).0
    where
      within : (n : ℕ) → given_again (entry_of d form.mapped) ≡ Some n → n < length notes.begins
      within n is = omega (
        arith,
        again_bound (itself (entry_of d form.mapped) ∷ (entry_of d form.mapped).variants) [] n is,
        variants_counted d form.mapped (some_form form.mapped form.last (line_spells line form e).0),
        begins_are d line form e,
      )

  pub source_told : is_some (source_place notes.begins) ≡ true
  source_told = some_map Source (slice_get notes.begins 0) ∙ some_at notes.begins 0 (omega (arith, begins_are d line form e, some_form form.mapped form.last (line_spells line form e).0))
