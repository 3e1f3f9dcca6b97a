use Rattle.std.proofs.Common.{◌≡◌, ◌++◌, ◌∷◌, [], refl, sym, rules}
use Rattle.idn_class.specs.declared.facts.Fact.TheVariants.{NotKept, Contextj}
use Rattle.idn_label.specs.inner.SimpleNames.{PassesInName}
use Rattle.idn_label.proofs.SimplePoints.{one_fact, passes_simple, passes_full_stop, passes_high, appended_one}
use Rattle.idn_label.proofs.query.simple.push_kept.Goals as goal
use Rattle.idn_label.proofs.query.simple.push_kept.Goals.{then-not-is_empty+then-c-ne46+else-is_ascii+else-contains+else-contains-2, else-not-is_empty, else-not-is_empty-via-then-not-is_empty+else-c-ne46, else-not-is_empty-via-else-not-is_empty}

pub returns : goal.returns
returns c =
    let point = c.args.c in
    let without = one_fact c.args.facts point c.requires in
    let pushed : c.try_push.new.self.items ≡ c.args.mapped.now.items ++ point ∷ [] = search rules in
    let passes : PassesInName point =
    elim c.if-not-is_empty.branch [
      | then-not-is_empty+then-c-ne46+else-is_ascii+else-contains+else-contains-2 w ↦
          passes_high point (sym w.if-is_ascii.ensures) (without NotKept (sym w.if-contains.ensures)) (without Contextj (sym w.if-contains-2.ensures))
      | else-not-is_empty w ↦
          elim w.else-not-is_empty.branch [
            | else-not-is_empty-via-then-not-is_empty+else-c-ne46 v ↦ rw v.if-c-ne46.false passes_full_stop
            | else-not-is_empty-via-else-not-is_empty v ↦ passes_simple point (λ fact. without fact (v.if-not-is_empty.ensures.0 refl fact))
          ]
    ] in
    appended_one c.args.facts c.args.mapped.now.items c.try_push.new.self.items point pushed passes c.requires
