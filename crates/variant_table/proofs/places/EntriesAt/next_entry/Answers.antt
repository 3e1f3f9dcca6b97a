use Rattle.std.proofs.Common.{arith, ◌≡◌, ◌+◌, ◌<◌, ◌++◌, ◌∷◌, length, ap, sym, ◌∙◌, List, ℕ}
use Rattle.std.specs.Option.{option_to_list}
use Rattle.variant_table.specs.Entries.{Entry}
use Rattle.variant_table.specs.Places.{entries_longer}
use Rattle.variant_table.proofs.PlaceLemmas.{longer_step, longer_stop}
use Rattle.variant_table.proofs.places.EntriesAt.next_entry.Goals as goal
use Rattle.variant_table.proofs.places.EntriesAt.next_entry.Goals.{then-not-has_longer, else-not-has_longer}

pub returns-in-Some : goal.returns-in-Some
returns-in-Some c =
    let table : List Entry = c.loop-self.self-inside.entries.now in
    let label : List ℕ = c.loop-self.self-inside.label.now in
    let place : ℕ = c.loop-self.self-inside.place in
    let len : ℕ = c.loop-self.self-inside.len in
    let next = c.if-not-has_longer.self-inside in
    let left : entries_longer next.entries.now next.label.now next.place next.len ≡ entries_longer table label place (len + 1) =
    elim c.if-not-has_longer.branch [
      | then-not-has_longer w ↦
          ap (λ s. entries_longer s.entries.now s.label.now s.place s.len) w.self-inside-is ∙ longer_stop table label place len (c.look_up-entry.ensures.longer.0 w.if-not-has_longer.true)
      | else-not-has_longer w ↦ ap (λ s. entries_longer s.entries.now s.label.now s.place s.len) w.self-inside-is
    ] in
    sym c.loop-self.invariant.same ∙ longer_step table label place len (omega (arith, c.loop-self-test.true)) c.if-self.true
    ∙ ap (λ o. option_to_list o ++ entries_longer table label place (len + 1)) (sym c.look_up-entry.ensures.entry ∙ c.in-Some.is)
    ∙ ap (λ es. c.in-Some.entry ∷ es) (sym left)

pub loop-self-preserved : goal.loop-self-preserved
loop-self-preserved c =
    let table : List Entry = c.loop-self.self-inside.entries.now in
    let label : List ℕ = c.loop-self.self-inside.label.now in
    let place : ℕ = c.loop-self.self-inside.place in
    let len : ℕ = c.loop-self.self-inside.len in
    let small : len < 8 = omega (arith, c.loop-self-test.true) in
    let step : entries_longer table label place len ≡ entries_longer table label place (len + 1) =
    longer_step table label place len small c.if-self.true
    ∙ ap (λ o. option_to_list o ++ entries_longer table label place (len + 1)) (sym c.look_up-entry.ensures.entry ∙ c.in_default.is) in
    elim c.if-not-has_longer.branch [
      | then-not-has_longer w ↦ record {
        same = ap (λ s. entries_longer s.entries.now s.label.now s.place s.len) w.self-inside-is
            ∙ longer_stop table label place len (c.look_up-entry.ensures.longer.0 w.if-not-has_longer.true) ∙ sym step ∙ c.loop-self.invariant.same;
        within = omega (arith, c.loop-self.invariant.within, ap (λ s. s.place) w.self-inside-is, ap (λ s. length s.label.now) w.self-inside-is);
        limited = omega (arith, ap (λ s. s.len) w.self-inside-is);
      }
      | else-not-has_longer w ↦ record {
        same = ap (λ s. entries_longer s.entries.now s.label.now s.place s.len) w.self-inside-is ∙ sym step ∙ c.loop-self.invariant.same;
        within = omega (arith, c.loop-self.invariant.within, ap (λ s. s.place) w.self-inside-is, ap (λ s. length s.label.now) w.self-inside-is);
        limited = omega (arith, small, ap (λ s. s.len) w.self-inside-is);
      }
    ]
