use Rattle.std.proofs.Common.{inl, inr}
use Rattle.label_patterns.proofs.PlaceLemmas.{Has-with}
use Rattle.label_patterns.proofs.places.with_place_if.Goals as goal

pub returns-then-wanted : goal.returns-then-wanted
returns-then-wanted c p =
    let both = Has-with c.args.places c.args.place p c.requires in (
      λ h. elim (both.0 h) [ inl k ↦ inl k | inr e ↦ inr (c.if-wanted.true, e) ],
      λ h. both.1 (elim h [ inl k ↦ inl k | inr k ↦ inr k.1 ]),
    )

pub returns-else-wanted : goal.returns-else-wanted
returns-else-wanted c p = (λ h. inl h, λ h. elim h [ inl k ↦ k | inr k ↦ absurd (let e = c.if-wanted.false in let f = k.0 in cc) ])
