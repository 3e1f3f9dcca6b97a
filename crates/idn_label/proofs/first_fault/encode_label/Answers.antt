use Rattle.std.proofs.Common.{◌≡◌, Bool, true, false, Option, Some, None, IfNone, IsSome, refl, sym, arith}
use Rattle.std.proofs.lemmas.Bool.{both_ways}
use Rattle.idn_label.proofs.OldNameLemmas.{in_zone-few, in_zone-within}
use Rattle.idn_label.proofs.first_fault.encode_label.Goals as goal

pub ascii_text-requires : goal.ascii_text-requires
ascii_text-requires c =
    (omega (arith), (in_zone-few c.requires.0 c.args.label.now c.requires.1, sym c.if-is_all_ascii.ensures))

some_unless : {X : Type 0} (o : Option X) (long : Bool) → IfNone o (long ≡ true) → long ≡ false → IsSome o
some_unless None long none short = absurd (both_ways long short none)
some_unless (Some x) long none short = refl

pub unwrap-requires : goal.unwrap-requires
unwrap-requires c = some_unless c.encoded.result _ c.encoded.ensures.long (in_zone-within c.requires.0 c.args.label.now c.requires.1)
