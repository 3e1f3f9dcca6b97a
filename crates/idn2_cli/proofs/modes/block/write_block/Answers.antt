use Rattle.std.proofs.Common.{◌≡◌, ◌∙◌, ℕ, List, Option, None, take, ap, sym, subst, inr}
use Rattle.std.proofs.lemmas.Result.{err_from_is_err_and}
use Rattle.idn_class.specs.Known.{AreKnown}
use Rattle.idn_class.proofs.KnownLemmas.{AreKnown-nil}
use Rattle.idn_class.specs.declared.cached_prefixes.CachedPrefixes.{CachedPrefixes}
use Rattle.idn_class.specs.declared.properties.Properties.{Properties}
use Rattle.idn_punycode.specs.Cached.{Cached}
use Rattle.valid_labels.specs.Testing.{Testing}
use Rattle.variant_list.specs.Positions.{Built, Position}
use Rattle.idn2_options.specs.Settings.{Settings}
use Rattle.idn2_answers.specs.Said.{Said, said_text}
use Rattle.idn2_output.specs.OutputLines.{outputs}
use Rattle.idn2_output.specs.Writing.{Emits}
use Rattle.idn2_output.proofs.WrittenOutputLines.{stops_first}
use Rattle.idn2_cli.specs.inner.Asked.{asked_line}
use Rattle.idn2_cli.specs.declared.modes.variant_judge.VariantJudge.{VariantJudge}
use Rattle.idn2_cli.specs.inner.Blocks.{field_in}
use Rattle.idn2_cli.specs.inner.CachedLines.{Begun}
use Rattle.idn2_cli.specs.inner.Dispositions.{Listing}
use Rattle.idn2_cli.specs.inner.Ruling.{filter_for}
use Rattle.idn2_cli.proofs.NextLines.{start-lines, start-no_memory, start-under_way}
use Rattle.idn2_cli.proofs.modes.block.write_block.Goals as goal

-- the judge before its first label
abbrev first : CachedPrefixes → Cached → Begun → Option Testing → Listing → Properties → VariantJudge
first beginnings test line validity of properties = record { beginnings = beginnings; test = test; line = line; validity = validity; dispositions = of; told = None; properties = properties }

-- what it asks is by the options
by_options : {s o : Settings} → s ≡ o → (validity : Option Testing) (of : Listing) → filter_for s.properties validity of ≡ filter_for o.properties validity of
by_options same validity of = ap (λ (s : Settings). filter_for s.properties validity of) same

-- the cursor stands at their text
stands : {s o : Settings} {after : List ℕ} {net : Built} {cursor : Position} → s ≡ o → after ≡ s.after → cursor ≡ record { net = net; last = take 63 after; edge_tests = 0 } → cursor.last ≡ take 63 o.after
stands same here at = ap (λ (p : Position). p.last) at ∙ ap (take 63) (here ∙ ap (λ (s : Settings). s.after) same)

pub returns-in_err-cursor-clause-written : goal.returns-in_err-cursor-clause-written
returns-in_err-cursor-clause-written g c =
    let p = err_from_is_err_and c.from_residual.result c.from_residual.ensures.1 in
    rw (p.1, p.2) (stops_first _ _)

pub write_lines-requires : goal.write_lines-requires
write_lines-requires g c = record {
  under_way = start-under_way c.args.options.now c.args.net.now c.in_ok-cursor.cursor (first c.new-2.result c.new-3.result c.new-4.result c.args.validity c.args.dispositions c.options.inside.properties) c.requires.limits (by_options c.options.view_is c.args.validity c.args.dispositions) (ap (λ (p : Position). p.net) c.in_ok-cursor.ensures) (stands c.options.view_is c.deref.ensures.value c.in_ok-cursor.ensures) c.requires.spelled (
    subst (AreKnown c.options.inside.properties c.in_ok-cursor.cursor.last) (sym c.new-2.ensures) (AreKnown-nil c.options.inside.properties c.in_ok-cursor.cursor.last),
    c.new-3.ensures.apart c.in_ok-cursor.cursor.last,
    c.new-4.ensures c.in_ok-cursor.cursor.last,
    c.requires.new c.in_ok-cursor.cursor.last,
    c.requires.ruling,
    c.requires.sound,
  );
}

pub returns-clause-written : goal.returns-clause-written
returns-clause-written g c =
    let all = start-lines c.args.options.now c.args.net.now c.in_ok-cursor.cursor (first c.new-2.result c.new-3.result c.new-4.result c.args.validity c.args.dispositions c.options.inside.properties) c.requires.limits (by_options c.options.view_is c.args.validity c.args.dispositions) (ap (λ (p : Position). p.net) c.in_ok-cursor.ensures) (stands c.options.view_is c.deref.ensures.value c.in_ok-cursor.ensures) (field_in c.args.options.now c.args.dispositions) in
    subst (λ (lines : List Said). Emits c.args.console.now c.write_lines.new.console (outputs (said_text c.args.asked.now.form (asked_line c.args.asked.now)) lines) c.write_lines.result) (sym all) c.write_lines.ensures.written

pub returns-clause-begun : goal.returns-clause-begun
returns-clause-begun g c = λ memory.
    inr (λ none. c.write_lines.ensures.no_memory (start-no_memory c.args.options.now c.args.net.now c.in_ok-cursor.cursor (first c.new-2.result c.new-3.result c.new-4.result c.args.validity c.args.dispositions c.options.inside.properties) c.requires.limits (by_options c.options.view_is c.args.validity c.args.dispositions) (ap (λ (p : Position). p.net) c.in_ok-cursor.ensures) (stands c.options.view_is c.deref.ensures.value c.in_ok-cursor.ensures) none) memory)
