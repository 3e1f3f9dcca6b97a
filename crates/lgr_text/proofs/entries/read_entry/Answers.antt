use Rattle.std.proofs.Common.{◌≡◌, true, false, cond, Option, sym, ap, ◌∙◌, subst}
use Rattle.std.specs.Prelude.{bytes_eq, codes}
use Rattle.lgr_text.specs.Entries.{char_of, entry_of, range_of}
use Rattle.lgr_text.specs.Records as records
use Rattle.lgr_text.specs.inner.Reading.{Reads, node}
use Rattle.lgr_text.proofs.entries.read_entry.Goals as goal

pub returns-then-is_named : goal.returns-then-is_named
returns-then-is_named c = λ k say.
    let n = node c.args.element.now k in
    let named : bytes_eq n.name (codes "char") ≡ true = sym c.is_named.ensures ∙ c.if-is_named.true in
    let said : entry_of n ≡ char_of n = ap (λ b. cond b (char_of n) (range_of n)) named in
    subst (λ (o : Option records.Entry). Reads records.entry o c.read_char.result) (sym said) (c.read_char.ensures k say)

pub returns-else-is_named : goal.returns-else-is_named
returns-else-is_named c = λ k say.
    let n = node c.args.element.now k in
    let named : bytes_eq n.name (codes "char") ≡ false = sym c.is_named.ensures ∙ c.if-is_named.false in
    let said : entry_of n ≡ range_of n = ap (λ b. cond b (char_of n) (range_of n)) named in
    subst (λ (o : Option records.Entry). Reads records.entry o c.read_range.result) (sym said) (c.read_range.ensures k say)
