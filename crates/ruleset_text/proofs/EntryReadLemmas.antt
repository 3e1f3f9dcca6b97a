-- What the grammar says of a line is read as it.
use Rattle.std.proofs.Common.{◌≡◌, ℕ, ◌≤◌, Bool, true, false, cond, List, [], ◌∷◌, ◌++◌, Option, Some, None, refl, sym, ap, subst, ◌∙◌, append_assoc}
use Rattle.std.specs.Prelude.{codes}
use Rattle.std.specs.List.{AllByRecursion}
use Rattle.std.proofs.lemmas.Bool.{le-leb}
use Rattle.idn_text.specs.Points.{point_of_hex}
use Rattle.ruleset_text.specs.declared.named_condition.NamedCondition.{NamedCondition}
use Rattle.label_patterns.specs.declared.condition.ConditionKind.{ConditionKind}
use Rattle.label_patterns.specs.declared.condition.ConditionKind.TheVariants as condition
use Rattle.ruleset_text.specs.declared.entry_reading.EntryWord.{EntryWord}
use Rattle.ruleset_text.specs.declared.entry_reading.EntryWord.TheVariants as word
use Rattle.ruleset_text.specs.declared.entry_reading.Phase.{Phase}
use Rattle.ruleset_text.specs.declared.entry_reading.Phase.TheVariants as phase
use Rattle.ruleset_text.specs.Entries.{Mapped, EntryForm}
use Rattle.ruleset_text.specs.EntryText.{MayHaveType, IsSequence, IsMapped, IsForm}
use Rattle.ruleset_text.specs.NamedConditions.{HasRule}
use Rattle.ruleset_text.specs.EntryWords as words
use Rattle.ruleset_text.specs.EntryWords.{Word, IsWord, AreWords, point_of, mark_words, sequence_words, last_words, type_words, kind_word, condition_words, mapped_words, variants_words, entry_words}
use Rattle.ruleset_text.specs.EntrySteps.{State, start, word_of, at_point, at_last, begin_by, step_by, step, state_after, ended, entry_at, entry_in}
use Rattle.ruleset_text.specs.Lexemes.{lexemes}
use Rattle.ruleset_text.specs.Names.{is_name}
use Rattle.ruleset_text.proofs.EntryStateLemmas.{part, at, before, after, phase_of, kind_phase, MayEnd, form_at, IsSpelled, spelled}

-- ---- from state to state

-- each lexeme that is the word leads from one state to the other
abbrev Takes : State → Word → State → Type 0
Takes s x t = (lexeme : List ℕ) → IsWord x lexeme → step s lexeme ≡ Some t

-- so do words, one by one
abbrev Goes : State → List Word → State → Type 0
Goes s [] t = s ≡ t
Goes s (x ∷ xs) t = (next : State) × Takes s x next × Goes next xs t

go_on : (xs ys : List Word) (s t u : State) → Goes s xs t → Goes t ys u → Goes s (xs ++ ys) u
go_on [] ys s t u e g = subst (λ r. Goes r ys u) (sym e) g
go_on (x ∷ xs) ys s t u f g = (f.0, f.1, go_on xs ys f.0 t u f.2 g)

state_read : (xs : List Word) (lexemes : List (List ℕ)) (s t : State) → Goes s xs t → AreWords xs lexemes → state_after (Some s) lexemes ≡ Some t
state_read [] [] s t e are = ap (λ r. Some r) e
state_read [] (w ∷ ws) s t e are = absurd are
state_read (x ∷ xs) [] s t g are = absurd are
state_read (x ∷ xs) (w ∷ ws) s t g are = ap (λ o. state_after o ws) (g.1 w are.0) ∙ state_read xs ws g.0 t g.2 are.1

-- a word that has one spelling
taken : (text : List ℕ) (s t : State) → step s text ≡ Some t → (lexeme : List ℕ) → lexeme ≡ text → step s lexeme ≡ Some t
taken text s t e lexeme is = ap (step s) is ∙ e

-- ---- code points

no_mark : (w : List ℕ) (c : ℕ) → point_of w ≡ Some c → word_of w ≡ word.Mark → ⊥
unfolding point_of_hex
no_mark w c is mark =
    let same : w ≡ codes "!" = subst (λ e. IsSpelled e w) mark (spelled w) in
    let none : point_of (codes "!") ≡ None = refl in
    let bad : Some c ≡ None = sym is ∙ ap point_of same ∙ none in cc

begin_point : (e : EntryWord) (s : State) (w : List ℕ) → (e ≡ word.Mark → ⊥) → begin_by s e w ≡ at_point s (point_of w)
begin_point word.Mark s w other = absurd (other refl)
begin_point e s w other = refl

-- a phase in which a code point may stand
abbrev TakesPoint : Phase → Type 0
TakesPoint phase.Begin = Unit {0}
TakesPoint phase.Mark = Unit {0}
TakesPoint phase.Hyphen = Unit {0}
TakesPoint p = ⊥

abbrev with_points : State → List ℕ → State
with_points s points = record s { current = record s.current { points = s.current.points ++ points }; phase = phase.Point }

takes_point : (p : Phase) (s : State) (c : ℕ) → TakesPoint p → (lexeme : List ℕ) → point_of lexeme ≡ Some c → step_by p s lexeme ≡ Some (with_points s (c ∷ []))
takes_point phase.Begin s c t lexeme is = begin_point (word_of lexeme) s lexeme (no_mark lexeme c is) ∙ ap (at_point s) is
takes_point phase.Mark s c t lexeme is = ap (at_point s) is
takes_point phase.Hyphen s c t lexeme is = ap (at_point s) is
takes_point p s c t lexeme is = absurd t

sequence_goes : (points : List ℕ) (s : State) (c : ℕ) → TakesPoint s.phase → Goes s (sequence_words (c ∷ points)) (with_points s (c ∷ points))
sequence_goes [] s c t = (with_points s (c ∷ []), takes_point s.phase s c t, refl)
sequence_goes (d ∷ points) s c t =
    let first = with_points s (c ∷ []) in
    let hyphen : State = record first { phase = phase.Hyphen } in
    let rest = sequence_goes points hyphen d tt in
    let all = subst (λ l. Goes hyphen (sequence_words (d ∷ points)) (record s { current = record s.current { points = l }; phase = phase.Point })) (append_assoc s.current.points (c ∷ []) (d ∷ points)) rest in
    (first, takes_point s.phase s c t, (hyphen, taken (codes "-") first hyphen refl, all))

-- ---- the last code point of a range

last_goes : (first c : ℕ) (marked : Bool) → first ≤ c → Goes (at [] None marked (first ∷ []) None None) (last_words (Some c)) (at [] (Some c) marked (first ∷ []) None None)
last_goes first c marked l =
    let s = at [] None marked (first ∷ []) None None in
    let t = at [] (Some c) marked (first ∷ []) None None in
    let range : State = record s { phase = phase.Range } in
    (range, taken (codes "..") s range refl, (t, λ lexeme is. ap (at_last range) is ∙ ap (λ b. cond b (Some t) None) (le-leb first c l), refl))

last_goes_if : (done : List Mapped) (last : Option ℕ) (marked : Bool) (points : List ℕ) → MayEnd done last points → Goes (at done None marked points None None) (last_words last) (at done last marked points None None)
last_goes_if done None marked points may = refl
last_goes_if done (Some c) marked points may =
    let P : List Mapped → List ℕ → Type 0 = λ d p. Goes (at d None marked p None None) (last_words (Some c)) (at d (Some c) marked p None None) in
    let single : P [] (may.2.0 ∷ []) = last_goes may.2.0 c marked may.2.2 in
    subst (λ d. P d points) (sym may.0) (subst (P []) (sym may.2.1) single)

-- ---- types

as_read : (last : Option ℕ) (s : State) → s.current.marked ≡ false → step_by (phase_of last None None) s (codes "as") ≡ Some (record s { phase = phase.As })
as_read None s e = ap (λ m. cond m None (Some (record s { phase = phase.As }))) e
as_read (Some c) s e = ap (λ m. cond m None (Some (record s { phase = phase.As }))) e

type_goes : (done : List Mapped) (last : Option ℕ) (marked : Bool) (points : List ℕ) (type_name : Option (List ℕ)) → MayHaveType marked type_name
    → Goes (at done last marked points None None) (type_words type_name) (at done last marked points type_name None)
type_goes done last marked points None may = refl
type_goes done last marked points (Some name) may =
    let s = at done last marked points None None in
    let t = at done last marked points (Some name) None in
    let named : State = record s { phase = phase.As } in
    (named, taken (codes "as") s named (as_read last s may.0), (t, taken name named t (ap (λ b. cond b (Some t) None) may.1), refl))

-- ---- conditions

kind_read : (last : Option ℕ) (type_name : Option (List ℕ)) (s : State) → (step_by (phase_of last type_name None) s (codes "when") ≡ Some (record s { phase = phase.When })) × (step_by (phase_of last type_name None) s (codes "unless") ≡ Some (record s { phase = phase.Unless }))
kind_read None None s = (refl, refl)
kind_read (Some c) None s = (refl, refl)
kind_read last (Some name) s = (refl, refl)

kind_taken : (kind : ConditionKind) (last : Option ℕ) (type_name : Option (List ℕ)) (s : State) → s.phase ≡ phase_of last type_name None → Takes s (kind_word kind) (record s { phase = kind_phase kind })
kind_taken condition.When last type_name s e lexeme is = ap (λ p. step_by p s lexeme) e ∙ ap (step_by (phase_of last type_name None) s) is ∙ (kind_read last type_name s).0
kind_taken condition.Unless last type_name s e lexeme is = ap (λ p. step_by p s lexeme) e ∙ ap (step_by (phase_of last type_name None) s) is ∙ (kind_read last type_name s).1

rule_taken : (kind : ConditionKind) (s : State) (rule : List ℕ) → is_name rule ≡ true
    → Takes (record s { phase = kind_phase kind }) (words.Rule rule) (record s { current = record s.current { condition = Some (record { kind = kind; rule = rule }) }; phase = phase.Rule })
rule_taken condition.When s rule name lexeme is =
    let t : State = record s { current = record s.current { condition = Some (record { kind = condition.When; rule = rule }) }; phase = phase.Rule } in
    ap (step_by phase.When s) is ∙ ap (λ b. cond b (Some t) None) name
rule_taken condition.Unless s rule name lexeme is =
    let t : State = record s { current = record s.current { condition = Some (record { kind = condition.Unless; rule = rule }) }; phase = phase.Rule } in
    ap (step_by phase.Unless s) is ∙ ap (λ b. cond b (Some t) None) name

condition_goes : (done : List Mapped) (last : Option ℕ) (marked : Bool) (points : List ℕ) (type_name : Option (List ℕ)) (condition : Option NamedCondition) → HasRule condition
    → Goes (at done last marked points type_name None) (condition_words condition) (at done last marked points type_name condition)
condition_goes done last marked points type_name None has = refl
condition_goes done last marked points type_name (Some c) has =
    let s = at done last marked points type_name None in
    (record s { phase = kind_phase c.kind }, kind_taken c.kind last type_name s refl, (at done last marked points type_name (Some c), rule_taken c.kind s c.rule has, refl))

-- ---- a source or a variant

abbrev phase_after_mark : Bool → Phase
phase_after_mark true = phase.Mark
phase_after_mark false = phase.Begin

abbrev after_mark : List Mapped → Bool → State
after_mark done marked = record { done = done; current = part marked [] None None; last = None; phase = phase_after_mark marked }

mark_goes : (done : List Mapped) (marked : Bool) → Goes (before done) (mark_words marked) (after_mark done marked)
mark_goes done true = (after_mark done true, taken (codes "!") (before done) (after_mark done true) refl, refl)
mark_goes done false = refl

mark_takes_point : (marked : Bool) → TakesPoint (phase_after_mark marked)
mark_takes_point true = tt
mark_takes_point false = tt

parts_go : (done : List Mapped) (last : Option ℕ) (marked : Bool) (c : ℕ) (points : List ℕ) (type_name : Option (List ℕ)) (condition : Option NamedCondition)
    → MayHaveType marked type_name → HasRule condition → MayEnd done last (c ∷ points)
    → Goes (before done) (mapped_words (part marked (c ∷ points) type_name condition) last) (at done last marked (c ∷ points) type_name condition)
parts_go done last marked c points type_name condition may has ends =
    let sequence = c ∷ points in
    let t = at done last marked sequence type_name condition in
    let typed = at done last marked sequence type_name None in
    let ended = at done last marked sequence None None in
    let single = at done None marked sequence None None in
    let from_type = go_on (type_words type_name) (condition_words condition) ended typed t (type_goes done last marked sequence type_name may) (condition_goes done last marked sequence type_name condition has) in
    let from_last = go_on (last_words last) (type_words type_name ++ condition_words condition) single ended t (last_goes_if done last marked sequence ends) from_type in
    let from_points = go_on (sequence_words sequence) (last_words last ++ (type_words type_name ++ condition_words condition)) (after_mark done marked) single t (sequence_goes points (after_mark done marked) c (mark_takes_point marked)) from_last in
    go_on (mark_words marked) (sequence_words sequence ++ (last_words last ++ (type_words type_name ++ condition_words condition))) (before done) (after_mark done marked) t (mark_goes done marked) from_points

mapped_goes : (done : List Mapped) (last : Option ℕ) (m : Mapped) → IsMapped m → MayEnd done last m.points → Goes (before done) (mapped_words m last) (after done last m)
mapped_goes done last m is ends = by_points m.points is.sequence ends
  where
    by_points : (points : List ℕ) → IsSequence points → MayEnd done last points → Goes (before done) (mapped_words (part m.marked points m.type_name m.condition) last) (at done last m.marked points m.type_name m.condition)
    by_points [] none ends = absurd none
    by_points (c ∷ points) scalars ends = parts_go done last m.marked c points m.type_name m.condition is.type_name is.condition ends

-- ---- the source and its variants

-- the words lead from the state to one at which the form is complete
abbrev Ends : State → List Word → EntryForm → Type 0
Ends s xs form = (t : State) × Goes s xs t × (ended t ≡ Some form)

last_ends : (done : List Mapped) (last : Option ℕ) (m : Mapped) → IsMapped m → MayEnd done last m.points → Ends (before done) (mapped_words m last) (record { mapped = done ++ m ∷ []; last = last })
last_ends done last m is ends = (after done last m, mapped_goes done last m is ends, form_at done last m)

bar_read : (m : Mapped) → step (after [] None m) (codes "|") ≡ Some (before (m ∷ []))
bar_read m = by_parts m.type_name m.condition
  where
    by_parts : (type_name : Option (List ℕ)) (condition : Option NamedCondition) → step_by (phase_of None type_name condition) (after [] None m) (codes "|") ≡ Some (before (m ∷ []))
    by_parts type_name (Some c) = refl
    by_parts (Some name) None = refl
    by_parts None None = refl

colon_read : (first : Mapped) (done : List Mapped) (m : Mapped) → step (after (first ∷ done) None m) (codes ":") ≡ Some (before ((first ∷ done) ++ m ∷ []))
colon_read first done m = by_parts m.type_name m.condition
  where
    by_parts : (type_name : Option (List ℕ)) (condition : Option NamedCondition) → step_by (phase_of None type_name condition) (after (first ∷ done) None m) (codes ":") ≡ Some (before ((first ∷ done) ++ m ∷ []))
    by_parts type_name (Some c) = refl
    by_parts (Some name) None = refl
    by_parts None None = refl

-- a source or a variant, a separator, and what ends a form
then_ends : (xs ys : List Word) (x : Word) (s t u : State) (form : EntryForm) → Goes s xs t → Takes t x u → Ends u ys form → Ends s (xs ++ x ∷ ys) form
then_ends xs ys x s t u form g takes ends = (ends.0, go_on xs (x ∷ ys) s t ends.0 g (u, takes, ends.1), ends.2)

variants_end : (variants : List Mapped) (first : Mapped) (done : List Mapped) (m : Mapped) → AllByRecursion IsMapped (m ∷ variants)
    → Ends (before (first ∷ done)) (variants_words (m ∷ variants)) (record { mapped = (first ∷ done) ++ m ∷ variants; last = None })
variants_end [] first done m are = last_ends (first ∷ done) None m are.0 tt
variants_end (n ∷ variants) first done m are =
    let form : List Mapped → EntryForm = λ l. record { mapped = first ∷ l; last = None } in
    let next = before ((first ∷ done) ++ m ∷ []) in
    let rest = subst (λ l. Ends next (variants_words (n ∷ variants)) (form l)) (append_assoc done (m ∷ []) (n ∷ variants)) (variants_end variants first (done ++ m ∷ []) n are.1) in
    then_ends (mapped_words m None) (variants_words (n ∷ variants)) words.Colon (before (first ∷ done)) (after (first ∷ done) None m) next (form (done ++ m ∷ n ∷ variants))
    (mapped_goes (first ∷ done) None m are.0 tt) (taken (codes ":") (after (first ∷ done) None m) next (colon_read first done m)) rest

form_ends : (mapped : List Mapped) (last : Option ℕ) → IsForm mapped last → Ends start (entry_words mapped last) (record { mapped = mapped; last = last })
form_ends [] last is = absurd is
form_ends (m ∷ []) None is = last_ends [] None m is.0 tt
form_ends (m ∷ n ∷ variants) None is =
    then_ends (mapped_words m None) (variants_words (n ∷ variants)) words.Bar (before []) (after [] None m) (before (m ∷ [])) (record { mapped = m ∷ n ∷ variants; last = None })
    (mapped_goes [] None m is.0 tt) (taken (codes "|") (after [] None m) (before (m ∷ [])) (bar_read m)) (variants_end variants m [] n is.1)
form_ends (m ∷ []) (Some c) is = last_ends [] (Some c) m is.0 (refl, is.1, is.2)
form_ends (m ∷ n ∷ mapped) (Some c) is = absurd is

-- what the grammar says of lexemes is read
pub words_read : (form : EntryForm) (lexemes : List (List ℕ)) → IsForm form.mapped form.last → AreWords (entry_words form.mapped form.last) lexemes → entry_in lexemes ≡ Some form
unfolding entry_in
words_read form lexemes is are =
    let ends = form_ends form.mapped form.last is in
    ap entry_at (state_read (entry_words form.mapped form.last) lexemes start ends.0 ends.1 are) ∙ ends.2
