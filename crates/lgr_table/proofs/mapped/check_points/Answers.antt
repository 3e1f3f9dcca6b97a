use Rattle.std.proofs.Common.{◌≡◌, ◌==◌, ◌∙◌, ℕ, true, inl, arith, refl, subst, sym}
use Rattle.std.specs.Prelude.{Contains}
use Rattle.std.proofs.lemmas.Bool.Decides.{nat_tests}
use Rattle.std.proofs.lemmas.List.{nil_from_length}
use Rattle.lgr_table.specs.inner.FaultSteps.{TellsVariants}
use Rattle.lgr_table.proofs.FaultLemmas.{is-read}
use Rattle.lgr_table.proofs.mapped.check_points.Goals as goal

no_length : (count : ℕ) → (count == 0) ≡ true → count ≡ 0
no_length count none = grind (arith, nat_tests)

pub returns-then-is_empty : goal.returns-then-is_empty
returns-then-is_empty c = λ source.
    let this = c.variant-item.result in
    subst (TellsVariants c.args.entry.now source) (sym c.on.ensures) (inl (record {
      variant = this;
      among = subst (λ l. Contains l this) c.deref-variant-items.ensures.value
          (is-read c.deref-variant-items.result.now c.loop-variant.variant-index this c.loop-variant-test.true c.variant-item.is);
      none = nil_from_length this.points.items (sym this.points.ok.0 ∙ no_length this.points.len (sym c.is_empty.ensures ∙ c.if-is_empty.true));
      here = refl;
    }))
