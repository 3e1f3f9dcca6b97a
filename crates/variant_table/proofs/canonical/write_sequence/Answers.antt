use Rattle.std.proofs.Common.{rules, arith, ◌≡◌, ◌<◌, ◌≤◌, ◌-◌, drop, ℕ, List, ◌++◌, ◌∷◌, [], length, ap, sym, ◌∙◌, take, get_or, length-append, length-take, length-drop}
use Rattle.std.proofs.lemmas.List.{take_all}
use Rattle.std.proofs.lemmas.List.Elements.{All-get_or, All-take, All-drop}
use Rattle.idn_text.specs.Points.{IsScalarValue}
use Rattle.variant_table.proofs.WritingLemmas.{further_text, further_more, whole_text, regroup, length-further_text}
use Rattle.variant_table.proofs.canonical.write_sequence.Goals as goal
use Rattle.ruleset_text.specs.Canonical.{point_text}
use Rattle.ruleset_text.proofs.HexLemmas.{length-point_text}

-- so many points so far leave room for one more
room : (s out : List ℕ) (i : ℕ) → length s ≤ 8 → i < length (take (length s - 1) (drop 1 s)) → out ≡ point_text (get_or s 0 0) ++ further_text (take i (take (length s - 1) (drop 1 s))) → length out ≤ 48
room s out i short within is =
    let rest : List ℕ = take (length s - 1) (drop 1 s) in
    omega (arith, short, within, ap length is, length-append (point_text (get_or s 0 0)) (further_text (take i rest)), length-point_text (get_or s 0 0), length-further_text (take i rest), length-take i rest, length-take (length s - 1) (drop 1 s), length-drop 1 s)

pub push_byte-requires : goal.push_byte-requires
push_byte-requires c = omega (arith, room c.args.sequence.now c.loop-point.out.items c.loop-point.point-index c.requires.short c.loop-point-test.true c.loop-point.invariant)

pub push_point-requires-in-loop-point-clause-point : goal.push_point-requires-in-loop-point-clause-point
push_point-requires-in-loop-point-clause-point c =
    let rest : List ℕ = take (length c.args.sequence.now - 1) (drop 1 c.args.sequence.now) in
    All-get_or IsScalarValue rest c.loop-point.point-index 0 c.loop-point-test.true
    (All-take IsScalarValue (length c.args.sequence.now - 1) (drop 1 c.args.sequence.now) (All-drop IsScalarValue 1 c.args.sequence.now c.requires.points))

pub push_point-requires-in-loop-point-clause-room : goal.push_point-requires-in-loop-point-clause-room
push_point-requires-in-loop-point-clause-room c =
    omega (arith, c.push_byte.ensures.len, room c.args.sequence.now c.loop-point.out.items c.loop-point.point-index c.requires.short c.loop-point-test.true c.loop-point.invariant)

pub loop-point-preserved : goal.loop-point-preserved
loop-point-preserved c =
    let rest : List ℕ = take (length c.args.sequence.now - 1) (drop 1 c.args.sequence.now) in
    let i : ℕ = c.loop-point.point-index in
    let first : List ℕ = point_text (get_or c.args.sequence.now 0 0) in
    let point : List ℕ = point_text (get_or rest i 0) in
    c.push_point-in-loop-point.ensures ∙ ap (λ t. t ++ point) (c.push_byte.ensures.items ∙ ap (λ t. t ++ 45 ∷ []) c.loop-point.invariant)
    ∙ regroup first (further_text (take i rest)) point ∙ ap (λ t. first ++ t) (sym (further_more rest i c.loop-point-test.true))

pub returns : goal.returns
returns c =
    let rest : List ℕ = take (length c.args.sequence.now - 1) (drop 1 c.args.sequence.now) in
    let first : List ℕ = point_text (get_or c.args.sequence.now 0 0) in
    let over : length rest ≤ c.loop-point.point-index = search rules in
    c.loop-point.invariant ∙ ap (λ t. first ++ further_text t) (take_all c.loop-point.point-index rest over) ∙ whole_text c.args.sequence.now c.in-len1-up.len_at_least
