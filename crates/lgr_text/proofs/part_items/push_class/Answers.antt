use Rattle.std.proofs.Common.{◌≡◌, ◌<◌, ◌&&◌, ℕ, false, List, [], ◌∷◌, inl, length, refl, sym, ap, ◌∙◌, subst, arith}
use Rattle.std.specs.Prelude.{◌↔◌, ◌≤◌, IsTrue}
use Rattle.std.proofs.lemmas.Bool.{false≢true}
use Rattle.std.proofs.lemmas.Result.{on_ok_weaker}
use Rattle.label_patterns.specs.declared.span.Span.{Span}
use Rattle.label_patterns.specs.Sets.{is_in, Rise}
use Rattle.label_patterns.specs.Trees.{pattern}
use Rattle.lgr_text.specs.Known.{known as known_of}
use Rattle.lgr_text.specs.Records.{class as class_of}
use Rattle.lgr_text.specs.inner.Items.{is_member, HasShape}
use Rattle.lgr_text.proofs.SetChoiceLemmas.{atom-chosen, atom-shape}
use Rattle.lgr_text.proofs.part_items.push_class.Goals as goal

some-left : (set : List Span) → (IsTrue false ↔ (set ≡ [])) → 0 < length set
some-left [] h = absurd (false≢true (h.1 refl))
some-left (s ∷ spans) h = omega arith

pub choice_of_sets-requires-clause-rise : goal.choice_of_sets-requires-clause-rise
choice_of_sets-requires-clause-rise c = subst Rise (sym c.spans.ensures.spans) c.spans.ensures.rise

pub choice_of_sets-requires-clause-some : goal.choice_of_sets-requires-clause-some
choice_of_sets-requires-clause-some c = subst (λ l. 0 < length l) (sym c.spans.ensures.spans) (some-left c.in_ok-set.set c.if-is_empty.ensures)

pub returns-clause-items : goal.returns-clause-items
returns-clause-items c =
    let known = known_of c.args.known in
    let class = class_of c.args.class.now in
    let spans = c.spans.result.now in
    let members : (d : ℕ) → d ≤ 0x10FFFF → is_in spans d ≡ is_member known class d = λ d le.
    ap (λ l. is_in l d) c.spans.ensures.spans ∙ c.in_ok-set.ensures d ∙ ap (λ b. b && is_in known.points d) (c.in_ok-class.ensures.members d le) in
    let tree = pattern c.in_ok-choice.choice in
    let item = pattern c.in_ok-item.item in
    on_ok_weaker c.push.result
    (λ e. inl (record {
      item = item;
      is = e;
      shape = subst (λ p. HasShape false (p ∷ [])) (sym c.in_ok-item.ensures) (atom-shape tree c.in_ok-choice.ensures.form c.in_ok-choice.ensures.free);
      spans = spans;
      choice = atom-chosen spans c.args.sets.now.items c.choice_of_sets.new.sets.items tree item c.in_ok-item.ensures c.in_ok-choice.ensures;
      members = members;
    }))
    c.push.ensures.items
