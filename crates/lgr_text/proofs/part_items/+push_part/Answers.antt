use Rattle.std.proofs.Common.{◌≡◌, None, true, false, [], map, refl, sym, ap, subst, ◌∙◌}
use Rattle.std.proofs.lemmas.Result.{on_ok_weaker}
use Rattle.label_patterns.specs.Trees.{pattern}
use Rattle.lgr_text.specs.Known.{known as known_of}
use Rattle.lgr_text.specs.PartMatches.{has_anchor, name_fault, then_fault, times_fault, IsWellFormed}
use Rattle.lgr_text.specs.Records.{class as class_of, part as part_of, Literal, Then, Choice, Times, OfRule}
use Rattle.lgr_text.specs.inner.Items.{Appends}
use Rattle.lgr_text.proofs.PartLemmas.{choice-part, class-kept, class-part, literal-part, then-part, times-part, any-part, end-part, start-part, rule-part, told-none}
use Rattle.lgr_text.proofs.SetNumberLemmas.{sets-stay}
use Rattle.lgr_text.proofs.part_items.+push_part.Goals as goal

pub returns-in-Literal-clause-items : goal.returns-in-Literal-clause-items
returns-in-Literal-clause-items t c =
    let is : part_of c.args.part.now ≡ Literal c.deref.result.now = ap part_of c.in-Literal.is ∙ ap Literal (sym c.deref.ensures.value) in
    on_ok_weaker c.push_literal.result
    (λ e. literal-part (known_of c.args.known) c.args.sets.now.items c.args.sets.now.items
    (map pattern c.args.items.now.items) (map pattern c.push_literal.new.items.items) c.deref.result.now (part_of c.args.part.now) is
    refl e)
    c.push_literal.ensures.items

pub returns-in-Of-clause-items : goal.returns-in-Of-clause-items
returns-in-Of-clause-items t c =
    on_ok_weaker c.push_class.result
    (λ adds. class-part (known_of c.args.known) (class_of c.in-Of.class) c.args.sets.now.items c.push_class.new.sets.items
    (map pattern c.args.items.now.items) (map pattern c.push_class.new.items.items) (part_of c.args.part.now) (ap part_of c.in-Of.is) adds)
    c.push_class.ensures.items

pub returns-in_ok-push_part-in-Then-clause-items :
    goal.returns-in_ok-push_part-in-Then-clause-items
returns-in_ok-push_part-in-Then-clause-items t c =
    let first = c.deref-in-Then-3.result.now in
    let rest = c.deref-in-Then-4.result.now in
    let is : part_of c.args.part.now ≡ Then (part_of first) (part_of rest) =
    ap part_of c.in-Then.is
    ∙ ap (λ q. Then (part_of q) (part_of c.in-Then.rest.value)) (sym c.deref-in-Then-3.ensures)
    ∙ ap (λ q. Then (part_of first) (part_of q)) (sym c.deref-in-Then-4.ensures) in
    let sound : then_fault (known_of c.args.known) (part_of first) (part_of rest) ≡ None =
    subst (λ q. then_fault (known_of c.args.known) (part_of q) (part_of rest) ≡ None) (c.deref-in-Then.ensures ∙ sym c.deref-in-Then-3.ensures)
    (subst (λ q. then_fault (known_of c.args.known) (part_of c.deref-in-Then.result.now) (part_of q) ≡ None)
    (c.deref-in-Then-2.ensures ∙ sym c.deref-in-Then-4.ensures) c.in_ok-check_then-in-Then.ensures) in
    on_ok_weaker c.push_part-in-Then.result
    (λ right. then-part (known_of c.args.known) (part_of first) (part_of rest) (part_of c.args.part.now)
    c.args.sets.now.items c.push_part.new.sets.items c.push_part-in-Then.new.sets.items
    (map pattern c.args.items.now.items) (map pattern c.push_part.new.items.items) (map pattern c.push_part-in-Then.new.items.items)
    is sound c.in_ok-push_part-in-Then.ensures.items right)
    c.push_part-in-Then.ensures.items

pub returns-in_ok-push_part-in-Choice-2-clause-items :
    goal.returns-in_ok-push_part-in-Choice-2-clause-items
returns-in_ok-push_part-in-Choice-2-clause-items t c =
    let known = known_of c.args.known in
    let left = c.deref-in-Choice.result.now in
    let right = c.deref-in-Choice-2.result.now in
    let is : part_of c.args.part.now ≡ Choice (part_of left) (part_of right) =
    ap part_of c.in-Choice.is
    ∙ ap (λ q. Choice (part_of q) (part_of c.in-Choice.right.value)) (sym c.deref-in-Choice.ensures)
    ∙ ap (λ q. Choice (part_of left) (part_of q)) (sym c.deref-in-Choice-2.ensures) in
    let left_items = map pattern c.push_part-in-Choice.new.items.items in
    let right_items = map pattern c.push_part-in-Choice-2.new.items.items in
    let first = c.args.sets.now.items in
    let middle = c.push_part-in-Choice.new.sets.items in
    let last = c.push_part-in-Choice-2.new.sets.items in
    let made_left : Appends known first middle [] left_items (part_of left) =
    subst (λ l. Appends known first middle (map pattern l) left_items (part_of left)) c.new-left_items.ensures.items c.in_ok-push_part-in-Choice.ensures.items in
    let made_right : Appends known middle last [] right_items (part_of right) =
    subst (λ l. Appends known middle last (map pattern l) right_items (part_of right)) c.new-right_items.ensures.items c.in_ok-push_part-in-Choice-2.ensures.items in
    on_ok_weaker c.push_choice.result
    (λ e. choice-part known (part_of left) (part_of right) (part_of c.args.part.now) first middle last last
    (map pattern c.args.items.now.items) (map pattern c.push_choice.new.items.items) left_items right_items is
    refl made_left made_right e)
    c.push_choice.ensures.items

pub returns-in_ok-push_part-in-Times-clause-items :
    goal.returns-in_ok-push_part-in-Times-clause-items
returns-in_ok-push_part-in-Times-clause-items t c =
    let known = known_of c.args.known in
    let inner = c.deref-in-Times-2.result.now in
    let is : part_of c.args.part.now ≡ Times c.in-Times.count (part_of inner) =
    ap part_of c.in-Times.is ∙ ap (λ q. Times c.in-Times.count (part_of q)) (sym c.deref-in-Times-2.ensures) in
    let well : IsWellFormed (Times c.in-Times.count (part_of inner)) = subst IsWellFormed is c.requires.part in
    let once = map pattern c.push_part-in-Times.new.items.items in
    let first = c.args.sets.now.items in
    let last = c.push_part-in-Times.new.sets.items in
    let made : Appends known first last [] once (part_of inner) =
    subst (λ l. Appends known first last (map pattern l) once (part_of inner)) c.new-once.ensures.items c.in_ok-push_part-in-Times.ensures.items in
    let sound : times_fault known (part_of inner) ≡ None =
    subst (λ q. times_fault known (part_of q) ≡ None) (c.deref-in-Times.ensures ∙ sym c.deref-in-Times-2.ensures) c.in_ok-check_times-in-Times.ensures in
    on_ok_weaker c.push_times.result
    (λ e. times-part known c.in-Times.count (part_of inner) (part_of c.args.part.now) first last last
    (map pattern c.args.items.now.items) (map pattern c.push_times.new.items.items) once is
    refl sound well.0 made e)
    c.push_times.ensures.items

pub returns-in-OfRule-clause-items : goal.returns-in-OfRule-clause-items
returns-in-OfRule-clause-items t c =
    let is : part_of c.args.part.now ≡ OfRule c.as_slice.result.now = ap part_of c.in-OfRule.is ∙ ap OfRule (sym c.as_slice.ensures) in
    told-none (name_fault (known_of c.args.known) c.as_slice.result.now) c.push_rule.result
    (λ found e. rule-part (known_of c.args.known) c.as_slice.result.now c.args.sets.now.items c.args.sets.now.items
    (map pattern c.args.items.now.items) (map pattern c.push_rule.new.items.items) (part_of c.args.part.now) is
    refl c.requires.rules c.requires.branches c.requires.none found e)
    c.push_rule.ensures.fault c.push_rule.ensures.items

pub returns-in-Any-clause-items : goal.returns-in-Any-clause-items
returns-in-Any-clause-items t c =
    on_ok_weaker c.push.result
    (λ e. any-part (known_of c.args.known) c.args.sets.now.items c.args.sets.now.items
    (map pattern c.args.items.now.items) (map pattern c.push.new.items.items) (part_of c.args.part.now) (ap part_of c.in-Any.is)
    refl e)
    c.push.ensures.items

pub returns-in-Start-clause-items : goal.returns-in-Start-clause-items
returns-in-Start-clause-items t c =
    on_ok_weaker c.push-in-Start.result
    (λ e. start-part (known_of c.args.known) c.args.sets.now.items c.args.sets.now.items
    (map pattern c.args.items.now.items) (map pattern c.push-in-Start.new.items.items) (part_of c.args.part.now) (ap part_of c.in-Start.is)
    refl e)
    c.push-in-Start.ensures.items

pub returns-in-End-clause-items : goal.returns-in-End-clause-items
returns-in-End-clause-items t c =
    on_ok_weaker c.push-in-End.result
    (λ e. end-part (known_of c.args.known) c.args.sets.now.items c.args.sets.now.items
    (map pattern c.args.items.now.items) (map pattern c.push-in-End.new.items.items) (part_of c.args.part.now) (ap part_of c.in-End.is)
    refl e)
    c.push-in-End.ensures.items

pub returns-in-Anchor-clause-items : goal.returns-in-Anchor-clause-items
returns-in-Anchor-clause-items t c = absurd (let none : true ≡ false = sym (ap (λ p. has_anchor (known_of c.args.known) (part_of p)) c.in-Anchor.is) ∙ c.requires.none in cc)

pub returns-in-Of-clause-rules : goal.returns-in-Of-clause-rules
returns-in-Of-clause-rules t c =
    on_ok_weaker c.push_class.result
    (λ adds. sets-stay c.push_class.new.sets.items c.args.sets.now.items (map pattern c.args.known.rules.now)
    (class-kept (known_of c.args.known) (class_of c.in-Of.class) c.args.sets.now.items c.push_class.new.sets.items
    (map pattern c.args.items.now.items) (map pattern c.push_class.new.items.items) adds)
    c.requires.rules)
    c.push_class.ensures.items
