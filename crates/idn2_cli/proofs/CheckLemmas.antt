-- The pairs that are found in a table, as they are written.
use Rattle.std.proofs.Common.{◌≡◌, ◌<◌, ◌⊎◌, inl, inr, ℕ, List, [], ◌∷◌, ◌++◌, All, map, length, Contains, refl, sym, ap, subst, ◌∙◌, Vec}
use Rattle.variant_table.specs.Entries.{Entry, TableValue, sequences_in, replacements}
use Rattle.variant_table.specs.IdleTypes.{idle_types}
use Rattle.variant_table.specs.WellFormed.{IsWellFormed, IsEntry, IsSequence}
use Rattle.std.specs.declared.alloc.Global.{Global}
use Rattle.std.proofs.lemmas.List.{get_or-map, length-map}
use Rattle.variant_table.specs.Gaps.{IsGap, IsPair, AreGapsOf, gaps_of, pair_of, pairs_of}
use Rattle.variant_table.specs.Differences.{AreDifferencesOf, differences_of}
use Rattle.answer_json.specs.declared.checked.PairFinding.TheVariants.{Missing, Differs}
use Rattle.idn2_options.specs.declared.command_line.form.Form.{Form}
use Rattle.idn2_answers.specs.Said.{Finding, Found, Idle, Counted, finding_text}
use Rattle.idn2_output.specs.OutputLines.{OutputLine, Output, outputs}
use Rattle.idn2_answers.specs.Transcript.{check_findings}
use Rattle.idn2_cli.specs.inner.PairSequences.{HoldSequences}
use Rattle.variant_table.proofs.MemberLemmas.{Contains-head, Contains-later}

all_at : {X : Type 0} (P : X → Type 0) (xs : List X) (x : X) → All P xs → Contains xs x → P x
all_at P xs x all c = subst P c.2 (all c.0 x c.1)

pair_sequences : (table : List Entry) (s v : List ℕ) → IsWellFormed table → IsPair table s v → IsSequence s × IsSequence v
pair_sequences table s v formed p =
    let entry = all_at IsEntry table p.0 formed.entries p.1 in
    let sequences = entry.sequences in (
      subst IsSequence p.2 (all_at IsSequence (replacements p.0) p.0.source sequences (Contains-head p.0.source (sequences_in p.0.variants))),
      all_at IsSequence (replacements p.0) v sequences (Contains-later p.0.source (sequences_in p.0.variants) v p.3),
    )

gap_sequences : (table : List Entry) (a b : List ℕ) → IsWellFormed table → IsGap table a b → IsSequence a × IsSequence b
gap_sequences table a b formed gap = by_cause gap.wanted
  where
    by_cause : IsPair table b a ⊎ ((c : List ℕ) × IsPair table a c × IsPair table c b) → IsSequence a × IsSequence b
    by_cause (inl p) = let s = pair_sequences table b a formed p in (s.1, s.0)
    by_cause (inr c) = ((pair_sequences table a c.0 formed c.1).0, (pair_sequences table c.0 b formed c.2).1)

-- pairs in memory can be written, if they are pairs of sequences
hold_sequences : (pairs : List (Vec ℕ Global × Vec ℕ Global)) → ((a b : List ℕ) → Contains (pairs_of pairs) (a, b) → IsSequence a × IsSequence b) → HoldSequences pairs
hold_sequences pairs sequences = λ i pair lt is.
    let there : Contains (pairs_of pairs) (pair_of pair) = (i, subst (λ (n : ℕ). i < n) (sym (length-map pairs pair_of)) lt, get_or-map pair_of pairs i pair (pair_of pair) lt ∙ ap pair_of (sym is)) in
    sequences pair.0.items pair.1.items there

pub gaps_hold : (table : List Entry) (gaps : List (Vec ℕ Global × Vec ℕ Global)) → IsWellFormed table → AreGapsOf table (pairs_of gaps) → HoldSequences gaps
gaps_hold table gaps formed are = hold_sequences gaps (λ a b c. gap_sequences table a b formed ((are.members a b).0 c))

pub differences_hold : (table : List Entry) (pairs : List (Vec ℕ Global × Vec ℕ Global)) → IsWellFormed table → AreDifferencesOf table (pairs_of pairs) → HoldSequences pairs
differences_hold table pairs formed are = hold_sequences pairs (λ a b c. let d = (are.members a b).0 c in pair_sequences table a b formed d.there)

-- ---- what a check finds

outputs-append : {X : Type 0} (text : X → List ℕ) (xs ys : List X) → outputs text (xs ++ ys) ≡ outputs text xs ++ outputs text ys
outputs-append text [] ys = refl
outputs-append text (x ∷ xs) ys = ap (λ (ps : List OutputLine). Output (text x) ∷ ps) (outputs-append text xs ys)

-- the idle types, and then the number of the gaps
pub last-split : (form : Form) (idle : List (List ℕ)) (entries gaps : ℕ)
    → outputs (finding_text form) (map Idle idle ++ Counted entries gaps ∷ []) ≡ outputs (finding_text form) (map Idle idle) ++ Output (finding_text form (Counted entries gaps)) ∷ []
last-split form idle entries gaps = outputs-append (finding_text form) (map Idle idle) (Counted entries gaps ∷ [])

-- the gaps, then the differences, then the idle types and the number of the gaps
pub check-split : (form : Form) (table : TableValue) (gaps differences : List (List ℕ × List ℕ)) → gaps ≡ gaps_of table.entries → differences ≡ differences_of table.entries
    → outputs (finding_text form) (check_findings table)
    ≡ outputs (finding_text form) (map (Found Missing) gaps)
    ++ (outputs (finding_text form) (map (Found Differs) differences) ++ outputs (finding_text form) (map Idle (idle_types table.definitions) ++ Counted (length table.entries) (length gaps) ∷ []))
check-split form table gaps differences missing differing =
    ap (outputs text) (ap (λ ps. map (Found Missing) ps ++ (map (Found Differs) (differences_of table.entries) ++ last ps)) (sym missing) ∙ ap (λ ps. map (Found Missing) gaps ++ (map (Found Differs) ps ++ last gaps)) (sym differing))
    ∙ outputs-append text (map (Found Missing) gaps) (map (Found Differs) differences ++ last gaps)
    ∙ ap (λ ps. outputs text (map (Found Missing) gaps) ++ ps) (outputs-append text (map (Found Differs) differences) (last gaps))
  where
    text : Finding → List ℕ
    text = finding_text form

    last : List (List ℕ × List ℕ) → List Finding
    last ps = map Idle (idle_types table.definitions) ++ Counted (length table.entries) (length ps) ∷ []

-- as many pairs as there are in memory
pub pairs_of-length : (pairs : List (Vec ℕ Global × Vec ℕ Global)) → length (pairs_of pairs) ≡ length pairs
pairs_of-length pairs = length-map pairs pair_of
