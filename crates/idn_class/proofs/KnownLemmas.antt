-- What is known of a beginning, and of one that is longer by a code point.
use Rattle.std.proofs.Common.{◌≡◌, ℕ, ◌+◌, ◌<◌, true, false, ◌||◌, List, [], ◌∷◌, ◌++◌, length, take, get_or, Some, sym, ap, ap₂, ◌∙◌, subst, inl, inr, append_assoc, append-nil, length-append, length-take, arith}
use Rattle.std.proofs.lemmas.Bool.{cases_lt, cases_order}
use Rattle.std.proofs.Math.ListN.{get_or-append}
use Rattle.std.proofs.Math.Seq.{get_or-append_seam}
use Rattle.std.proofs.lemmas.List.{take_all, take-take, take_more, take-append-le, get_or-take}
use Rattle.std.proofs.lemmas.List.Folds.{list_any-append}
use Rattle.std.proofs.Math.Bool.{or-false}
use Rattle.idn_class.specs.declared.direction.Direction.{Direction}
use Rattle.idn_class.specs.declared.facts.Fact.{Fact}
use Rattle.idn_class.specs.declared.facts.Facts.{Facts}
use Rattle.idn_class.specs.declared.known.Known.{Known}
use Rattle.idn_class.specs.Directions.{HasNone, IsShortest, breaks_at_first, breaks_after, lengthened}
use Rattle.idn_class.specs.Facts.{contains, has_fact}
use Rattle.idn_class.specs.Known.{IsKnown, AreKnown}
use Rattle.idn_class.proofs.DeadPrefixSteps.{broken_or_breaks_after, breaks_after-cons, breaks_after-nil}
use Rattle.idn_class.proofs.DeadPrefixShortest.{HasNone-nil}
use Rattle.idn_class.specs.declared.properties.Properties.{Properties}

module _ (properties : Properties) where
  -- ---- one code point more

  pub IsKnown-longer : (w : List ℕ) (known : Known) (c : ℕ) (more joined : Facts) (e : Direction) → IsKnown properties w known
      → ((fact : Fact) → contains more fact ≡ has_fact fact c) → ((fact : Fact) → contains joined fact ≡ (contains known.facts fact || contains more fact))
      → lengthened properties known.direction c ≡ Some e → IsKnown properties (w ++ c ∷ []) (record { facts = joined; direction = e })
  IsKnown-longer w known c more joined e h of both is =
      let told : (z : List ℕ) → breaks_at_first properties ((w ++ c ∷ []) ++ z) ≡ breaks_after properties e z =
      λ z. ap (breaks_at_first properties) (append_assoc w (c ∷ []) z) ∙ h.direction (c ∷ z) ∙ breaks_after-cons properties known.direction c z ∙ ap (λ o. broken_or_breaks_after properties o z) is in
      let whole : breaks_at_first properties (w ++ c ∷ []) ≡ false = ap (breaks_at_first properties) (sym (append-nil (w ++ c ∷ []))) ∙ told [] ∙ breaks_after-nil properties e in
      record {
        facts = λ fact. both fact ∙ ap₂ (λ a b. a || b) (h.facts fact) (of fact ∙ sym (or-false (has_fact fact c))) ∙ sym (list_any-append (has_fact fact) w (c ∷ []));
        direction = told;
        unbroken = λ k. elim (cases_lt k (length w + 1)) [
          | inl few ↦ ap (breaks_at_first properties) (take-append-le k w (c ∷ []) (omega arith)) ∙ h.unbroken k
          | inr many ↦ ap (breaks_at_first properties) (take_all k (w ++ c ∷ []) (omega (arith, length-append w (c ∷ [])))) ∙ whole
        ];
      }

  -- ---- what is cached of each beginning

  pub AreKnown-nil : (label : List ℕ) → AreKnown properties label []
  AreKnown-nil label = record { within = omega arith; each = λ i d within. absurd (omega (arith, within)) }

  pub AreKnown-push : (label : List ℕ) (known : List Known) (k : Known) → AreKnown properties label known → length known < length label → IsKnown properties (take (length known + 1) label) k → AreKnown properties label (known ++ k ∷ [])
  AreKnown-push label known k h room is = record {
    within = omega (arith, room, length-append known (k ∷ []));
    each = λ i d within. elim (cases_order i (length known)) [
      | inl last ↦
          subst (λ n. IsKnown properties (take (n + 1) label) (get_or (known ++ k ∷ []) n d)) (sym last)
          (subst (IsKnown properties (take (length known + 1) label)) (sym (get_or-append_seam known k [] d)) is)
      | inr other ↦ elim other [
        | inl less ↦ subst (IsKnown properties (take (i + 1) label)) (sym (get_or-append known (k ∷ []) d i less)) (h.each i d less)
        | inr more ↦ absurd (omega (arith, within, length-append known (k ∷ []), more))
      ]
    ];
  }

  -- what is known of the first n beginnings of a label is known of those of each label that begins with the same n code points
  pub AreKnown-keep : (before label : List ℕ) (known : List Known) (n : ℕ) → AreKnown properties before known → take n before ≡ take n label → AreKnown properties label (take n known)
  AreKnown-keep before label known n h same =
      let few = length-take n known in
      record {
        within = omega (arith, few, h.within, ap length same, length-take n before, length-take n label);
        each = λ i d within.
            let less : i < n = omega (arith, few, within) in
            let here : take (i + 1) before ≡ take (i + 1) label =
            sym (take-take (i + 1) n before (omega (arith, less))) ∙ ap (take (i + 1)) same ∙ take-take (i + 1) n label (omega (arith, less)) in
            subst (λ w. IsKnown properties w (get_or (take n known) i d)) here
            (subst (IsKnown properties (take (i + 1) before)) (sym (get_or-take n known i d less)) (h.each i d (omega (arith, few, within))));
      }

  pub IsKnown-last : (label : List ℕ) (known : List Known) (n : ℕ) (d : Known) → AreKnown properties label known → length known ≡ n + 1 → IsKnown properties (take (length known) label) (get_or known n d)
  IsKnown-last label known n d h long =
      subst (λ m. IsKnown properties (take m label) (get_or known n d)) (sym long) (h.each n d (omega (arith, long)))

  pub AreKnown-unbroken : (label : List ℕ) (known : List Known) (d : Known) → AreKnown properties label known → HasNone (breaks_at_first properties) (take (length known) label)
  AreKnown-unbroken label [] d h = HasNone-nil properties
  AreKnown-unbroken label (k ∷ known) d h = (IsKnown-last label (k ∷ known) (length known) d h (omega arith)).unbroken

  -- ---- going on to the end of a label

  pub IsShortest-next : (label : List ℕ) (i : ℕ) → i < length label → HasNone (breaks_at_first properties) (take i label) → breaks_at_first properties (take i label ++ get_or label i 0 ∷ []) ≡ true → IsShortest (breaks_at_first properties) label (i + 1)
  IsShortest-next label i within none breaks = record {
    within = omega arith;
    holds = ap (breaks_at_first properties) (take_more label i 0 within) ∙ breaks;
    first = λ k less. ap (breaks_at_first properties) (sym (take-take k i label (omega (arith, less)))) ∙ none k;
  }
