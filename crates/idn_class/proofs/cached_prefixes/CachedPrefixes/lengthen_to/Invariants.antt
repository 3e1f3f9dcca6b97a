use Rattle.std.proofs.Common.{◌≡◌, length, take}
use Rattle.idn_class.specs.Known.{AreKnown}
use Rattle.idn_class.specs.Directions.{HasNone, breaks_at_first}
use Rattle.idn_class.proofs.cached_prefixes.CachedPrefixes.lengthen_to.Given as goal

abbrev pub invariant-loop-index : goal.invariant-loop-index
invariant-loop-index l = record {
  count : length l.self ≡ l.index;
  known : AreKnown l.properties l.label l.self;
  unbroken : HasNone (breaks_at_first l.properties) (take l.index l.label);
}
