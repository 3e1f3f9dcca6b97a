use Rattle.std.proofs.Common.{length, ap, subst, arith}
use Rattle.variant_list.specs.Positions.{Position}
use Rattle.variant_list.specs.inner.NetPlans.{built_of}
use Rattle.variant_list.specs.inner.Skips.{GoesBack}
use Rattle.variant_list.proofs.ListLemmas.{product-le}
use Rattle.variant_list.proofs.cursor.Cursor.go_back.Goals as goal

pub returns : goal.returns
returns c =
    let old : Position = record { net = built_of c.self.inside.search.net; last = c.self.inside.search.last; edge_tests = c.self.inside.edge_tests } in
    let new : Position = record { net = built_of c.go_to-shared.new.self.net; last = c.go_to-shared.new.self.last; edge_tests = c.go_to-shared.new.looks } in
    let few = product-le (length c.self.inside.search.net.edges) (length c.args.label.now) 63 c.requires in
    subst (λ p. GoesBack p c.args.label.now new) c.self.view_is (record {
      net = ap built_of c.go_to-shared.ensures.net;
      last = c.go_to-shared.ensures.last;
      looks = omega (arith, c.go_to-shared.ensures.looks, few);
    })
