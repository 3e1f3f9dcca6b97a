use Rattle.std.proofs.Common.{◌≡◌, ◌↔◌, sym, ap, subst, ◌∙◌}
use Rattle.std.proofs.lemmas.Slice.Eq.{bytes_eq-Decides}
use Rattle.std.specs.Prelude.{IsTrue}
use Rattle.idn_class.specs.declared.properties.Properties.{Properties}
use Rattle.idn_label.specs.FirstFault.{IsRegistrable}
use Rattle.idn_label.proofs.RequirementLemmas.{MeetsRequirements-registrable}
use Rattle.variant_table.specs.Entries.{TableValue}
use Rattle.idn2_answers.proofs.AdmittedLabels.{some-length}
use Rattle.idn2_answers.specs.Listings.{is_registrable}
use Rattle.idn2_answers.specs.Collisions.{regard_of, regards_of}
use Rattle.idn2_cli.specs.inner.Decided.{IsStanding}
use Rattle.idn2_cli.proofs.DecisionLemmas.{both_are, of_pair, pair_of}
use Rattle.idn2_cli.proofs.modes.decided.Decisions.regards.Goals as goal

pub returns-clause-regards : goal.returns-clause-regards
returns-clause-regards c = λ o good by.
    let table = c.args.self.now.table.now in
    let label = c.args.self.now.label.now in
    let other = c.args.other.now in
    let s = c.standing_of in
    let may = c.in_ok-may_be_registered.may_be_registered in
    let told = subst (λ (p : Properties). IsTrue may ↔ IsRegistrable p other) (sym by) c.in_ok-may_be_registered.ensures in
    let made = c.in_ok-make_listing.ensures.pair in
    let standing = pair_of table label c.make_listing.new.self s.new.self made c.in_ok-standing.ensures.pair in
    let stands = subst (λ (t : TableValue). IsStanding o.properties t other c.in_ok-standing.standing) made.table_is (c.in_ok-standing.ensures.standing o.properties told) in
    both_are
    (of_pair o table label other s.new.self c.in_ok-standing.standing (λ t l. c.in_ok-there.there ≡ regard_of (is_registrable o.properties) t l other) standing (c.in_ok-there.ensures.regard o) good stands)
    (of_pair o table label other c.there.new.self c.in_ok-standing.standing (λ t l. c.in_ok-back.back ≡ regard_of (is_registrable o.properties) t other l) (pair_of table label s.new.self c.there.new.self standing c.in_ok-there.ensures.pair) (c.in_ok-back.ensures.regard o) good stands)

pub standing_of-requires-clause-some : goal.standing_of-requires-clause-some
standing_of-requires-clause-some c = λ may.
    some-length c.args.other.now (MeetsRequirements-registrable c.args.properties c.args.other.now (c.in_ok-may_be_registered.ensures.0 may)).some

pub returns-then-eq-clause-regards : goal.returns-then-eq-clause-regards
returns-then-eq-clause-regards c = λ o good by.
    let same = (bytes_eq-Decides c.args.other.now c.args.self.now.label.now).0 (sym c.if-eq.ensures) in
    c.own_regards.ensures o good ∙ ap (regards_of (is_registrable o.properties) c.args.self.now.table.now c.args.self.now.label.now) (sym same)
