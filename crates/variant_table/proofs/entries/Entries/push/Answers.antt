use Rattle.std.proofs.Common.{length-append, ◌≡◌, ◌+◌, ◌++◌, ◌∷◌, [], List, length, ap, ◌∙◌}
use Rattle.variant_table.specs.Entries.{Variant, entry_from}
use Rattle.variant_table.specs.inner.Held.{entries_of}
use Rattle.variant_table.proofs.EntryLemmas.{entries_of-longer, entries_of-push}
use Rattle.variant_table.proofs.entries.Entries.push.Goals as goal
use Rattle.variant_table.proofs.ListLemmas.{on_err}

pub returns-in_err-append-clause-err : goal.returns-in_err-append-clause-err
returns-in_err-append-clause-err c =
    on_err c.from_residual.result _ (entries_of-longer c.self.inside.sequences c.append.new.self c.self.inside.spans.items c.in_err-append.ensures.kept c.self.invariant ∙ c.self.view_is)

pub returns-in_err-push-clause-err : goal.returns-in_err-push-clause-err
returns-in_err-push-clause-err c =
    on_err c.from_residual-in_err-push.result _ (ap (entries_of c.append.new.self) c.in_err-push.ensures.items
    ∙ entries_of-longer c.self.inside.sequences c.append.new.self c.self.inside.spans.items c.in_ok-append.ensures.kept c.self.invariant ∙ c.self.view_is)

pub returns-clause-ok : goal.returns-clause-ok
returns-clause-ok c =
    let ss : List Variant = c.self.inside.sequences in
    let more : List Variant = c.args.sequences.now in
    let ends : c.len-end.result ≡ length ss + length more = c.len-end.ensures ∙ ap length c.in_ok-append.ensures.ok ∙ length-append ss more in
    ap (λ x. entries_of x c.push.new.self.items) c.in_ok-append.ensures.ok ∙ ap (entries_of (ss ++ more)) c.in_ok-push.ensures.items
    ∙ entries_of-push ss more c.self.inside.spans.items c.len-start.result c.len-end.result c.self.invariant c.len-start.ensures ends
    ∙ ap (λ t. t ++ entry_from more ∷ []) c.self.view_is
