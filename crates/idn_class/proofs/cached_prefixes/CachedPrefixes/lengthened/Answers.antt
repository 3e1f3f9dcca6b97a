use Rattle.std.proofs.Common.{◌≡◌, ◌∷◌, [], ◌++◌, List, true, length, take, MatchOption, sym, ap, subst}
use Rattle.idn_class.specs.declared.known.Known.{Known}
use Rattle.idn_class.specs.Directions.{breaks_at_first}
use Rattle.idn_class.specs.Known.{IsKnown}
use Rattle.idn_class.proofs.cached_prefixes.CachedPrefixes.lengthened.Goals as goal

pub returns-in-Some : goal.returns-in-Some
returns-in-Some c = λ label h. c.lengthened.ensures _ (c.in-Some.ensures c.args.properties label h)

pub returns-in-None : goal.returns-in-None
returns-in-None c = λ label h.
    let p = c.args.properties in
    subst (λ w. MatchOption c.begun.result (breaks_at_first p (w ++ c.args.c ∷ []) ≡ true) (IsKnown p (w ++ c.args.c ∷ [])))
    (sym (ap (λ (ks : List Known). take (length ks) label) (c.in-None.ensures p label h)))
    c.begun.ensures
