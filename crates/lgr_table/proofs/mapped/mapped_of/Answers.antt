use Rattle.std.proofs.Common.{◌≡◌, ◌∷◌, [], ◌++◌, false, map, refl, sym, ap, subst, ◌∙◌, arith}
use Rattle.std.proofs.lemmas.Result.{err_from_is_err_and}
use Rattle.lgr_text.specs.Records.{variant}
use Rattle.lgr_table.specs.Entries.{reflexive_type, variants_of}
use Rattle.lgr_table.specs.Tables.{may_stand}
use Rattle.lgr_table.specs.inner.EntrySteps.{PushesVariants}
use Rattle.lgr_table.proofs.CalledLemmas.{entry-pushed, reflexive-within}
use Rattle.ruleset_text.specs.declared.entry_form.Mapped.{Mapped}
use Rattle.lgr_table.proofs.mapped.mapped_of.Goals as goal

pub type_called-requires : goal.type_called-requires
type_called-requires c = λ k is.
    let less = reflexive-within c.args.numbers.now c.args.source.now (map variant c.deref.result.now) k (sym c.reflexive_type-number.ensures ∙ is) in
    omega (arith, less, c.requires.types)

pub returns-clause-is : goal.returns-clause-is
returns-clause-is c =
    let d = c.args.definitions.now in
    let n = c.args.numbers.now in
    let s = c.args.source.now in
    let may = may_stand d.properties in
    let m : Mapped = record { marked = false; points = c.in_ok-points.points; type_name = c.in_ok-type_name.type_name; condition = c.in_ok-condition.condition } in
    let first : c.push.new.self.items ≡ m ∷ [] = c.in_ok-push.ensures.items ∙ ap (λ l. l ++ m ∷ []) c.new-mapped.ensures.items in
    entry-pushed d c.push.new.self.items c.push_variants.new.mapped.items m s (reflexive_type n s (map variant c.args.entry.now.variants.items)) _
    (variants_of may n s (map variant c.args.entry.now.variants.items)) first refl c.in_ok-points.ensures.items
    (c.in_ok-type_name.ensures ∙ c.reflexive_type-number.ensures ∙ ap (λ l. reflexive_type n s (map variant l)) c.deref.ensures.value) c.in_ok-condition.ensures
    (subst (λ l. PushesVariants d c.push.new.self.items c.push_variants.new.mapped.items (variants_of may n s (map variant l))) c.deref-2.ensures.value c.in_ok-push_variants.ensures)

pub returns-in_err-check_points-clause-fault : goal.returns-in_err-check_points-clause-fault
returns-in_err-check_points-clause-fault c =
    let p = err_from_is_err_and c.from_residual-in_err-check_points.result c.from_residual-in_err-check_points.ensures.1 in
    rw (p.1, p.2) (c.in_err-check_points.ensures c.args.source.now)
