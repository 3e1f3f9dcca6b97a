use Rattle.std.proofs.Common.{rules, ◌≡◌, ◌∙◌, ◌+◌, ◌<◌, ◌≤◌, true, false, List, ℕ, length, take, sym, ap, subst, arith, length-take}
use Rattle.std.proofs.Math.Nat.{mul-le-mul_right}
use Rattle.std.proofs.lemmas.List.{take_all}
use Rattle.variant_list.specs.Jumps.{IsLeastFrom}
use Rattle.variant_list.specs.Sharing.{IsShared, IsSharedThrough}
use Rattle.variant_list.specs.inner.Plans.{Plan}
use Rattle.variant_list.specs.inner.Scans.{IsRead}
use Rattle.variant_list.proofs.JumpLemmas.{IsRead-reached, IsLeastFrom-itself, least-next, none-next, take-cut, unread-short, IsSharedThrough-itself, IsSharedThrough-next}
use Rattle.variant_list.proofs.search.Search.jump.Goals as goal
use Rattle.variant_list.proofs.search.Search.jump.Goals.{else-text-le-MAX_LABEL_LEN-via-then-text-le-MAX_LABEL_LEN+else-is_complete, else-text-le-MAX_LABEL_LEN-via-else-text-le-MAX_LABEL_LEN}

-- a text that is a label itself

pub returns-then-is_complete-clause-found : goal.returns-then-is_complete-clause-found
returns-then-is_complete-clause-found c =
    let stands : c.go_to-shared.new.self.last ≡ c.args.text.now =
    take-cut c.min.result c.args.text.now c.go_to-shared.new.self.last (search rules) c.go_to-shared.ensures.last ∙ take_all 63 c.args.text.now c.if-text-le-MAX_LABEL_LEN.true in
    let read : IsRead c.go_to-shared.new.self.net c.go_to-shared.new.self.last = IsRead-reached c.go_to-shared.new.self.net c.go_to-shared.new.self.last (c.is_complete.ensures.0 c.if-is_complete.true) in
    let here : IsRead c.args.self.now.net c.args.text.now = subst (λ (p : Plan). IsRead p c.args.text.now) c.go_to-shared.ensures.net (subst (λ (l : List ℕ). IsRead c.go_to-shared.new.self.net l) stands read) in
    subst (λ (l : List ℕ). IsLeastFrom (IsRead c.args.self.now.net) c.args.text.now l) (sym stands) (IsLeastFrom-itself (IsRead c.args.self.now.net) c.args.text.now here)

pub returns-then-is_complete-clause-shared : goal.returns-then-is_complete-clause-shared
returns-then-is_complete-clause-shared c =
    let start : List ℕ = c.go_to-shared.new.self.last in
    let stands : start ≡ take 63 c.args.text.now = take-cut c.min.result c.args.text.now start (search rules) c.go_to-shared.ensures.last in
    let shared : IsShared c.args.self.now.last start c.go_to-shared.result = subst (λ l. IsShared c.args.self.now.last l c.go_to-shared.result) (sym c.go_to-shared.ensures.last) c.go_to-shared.ensures.shared in
    IsSharedThrough-itself c.args.text.now c.args.self.now.last start stands c.go_to-shared.result (stands ∙ take_all 63 c.args.text.now c.if-text-le-MAX_LABEL_LEN.true) shared

-- where it looks further, the text is no label

pub returns-in-Some-clause-found : goal.returns-in-Some-clause-found
returns-in-Some-clause-found c =
    let net : Plan = c.go_to-shared.new.self.net in
    let start : List ℕ = c.go_to-shared.new.self.last in
    let stands : start ≡ take 63 c.args.text.now = take-cut c.min.result c.args.text.now start (search rules) c.go_to-shared.ensures.last in
    let top : ℕ = length (take c.min.result c.args.text.now) + 1 in
    let long : length start < top = omega (arith, ap length c.go_to-shared.ensures.last) in
    let unread : IsRead net c.args.text.now → ⊥ = λ r. elim c.else-text-le-MAX_LABEL_LEN.branch [
      | else-text-le-MAX_LABEL_LEN-via-then-text-le-MAX_LABEL_LEN+else-is_complete w ↦
          unread-short net c.args.text.now start stands w.if-text-le-MAX_LABEL_LEN.true
          (λ reached. let no : true ≡ false = sym (w.is_complete.ensures.1 reached) ∙ w.if-is_complete.false in cc) r
      | else-text-le-MAX_LABEL_LEN-via-else-text-le-MAX_LABEL_LEN w ↦ absurd (omega (arith, w.if-text-le-MAX_LABEL_LEN.false, r.short))
    ] in
    least-next net c.args.self.now.net top c.args.text.now start c.advance.new.self.last c.go_to-shared.ensures.net stands long unread c.in-Some.ensures.next

pub returns-in-Some-clause-shared : goal.returns-in-Some-clause-shared
returns-in-Some-clause-shared c =
    let start : List ℕ = c.go_to-shared.new.self.last in
    let stands : start ≡ take 63 c.args.text.now = take-cut c.min.result c.args.text.now start (search rules) c.go_to-shared.ensures.last in
    let shared : IsShared c.args.self.now.last start c.go_to-shared.result = subst (λ l. IsShared c.args.self.now.last l c.go_to-shared.result) (sym c.go_to-shared.ensures.last) c.go_to-shared.ensures.shared in
    subst (IsSharedThrough c.args.text.now c.args.self.now.last c.advance.new.self.last) (sym c.min-in-Some.ensures)
    (IsSharedThrough-next c.args.text.now c.args.self.now.last start stands c.advance.new.self.last c.go_to-shared.result c.in-Some.level (((c.in-Some.ensures.next).holds).read).short shared c.in-Some.ensures.shared)

pub returns-in-None-clause-none : goal.returns-in-None-clause-none
returns-in-None-clause-none c =
    let net : Plan = c.go_to-shared.new.self.net in
    let start : List ℕ = c.go_to-shared.new.self.last in
    let stands : start ≡ take 63 c.args.text.now = take-cut c.min.result c.args.text.now start (search rules) c.go_to-shared.ensures.last in
    let top : ℕ = length (take c.min.result c.args.text.now) + 1 in
    let long : length start < top = omega (arith, ap length c.go_to-shared.ensures.last) in
    let unread : IsRead net c.args.text.now → ⊥ = λ r. elim c.else-text-le-MAX_LABEL_LEN.branch [
      | else-text-le-MAX_LABEL_LEN-via-then-text-le-MAX_LABEL_LEN+else-is_complete w ↦
          unread-short net c.args.text.now start stands w.if-text-le-MAX_LABEL_LEN.true
          (λ reached. let no : true ≡ false = sym (w.is_complete.ensures.1 reached) ∙ w.if-is_complete.false in cc) r
      | else-text-le-MAX_LABEL_LEN-via-else-text-le-MAX_LABEL_LEN w ↦ absurd (omega (arith, w.if-text-le-MAX_LABEL_LEN.false, r.short))
    ] in
    none-next net c.args.self.now.net top c.args.text.now start c.advance.new.self.last c.go_to-shared.ensures.net stands long unread c.in-None.ensures.none

pub returns-in-None-clause-stays : goal.returns-in-None-clause-stays
returns-in-None-clause-stays c =
    let start : List ℕ = c.go_to-shared.new.self.last in
    let stands : start ≡ take 63 c.args.text.now = take-cut c.min.result c.args.text.now start (search rules) c.go_to-shared.ensures.last in
    c.in-None.ensures.stays ∙ stands

-- ---- how many edges are looked at

pub returns-in-Some-clause-looks : goal.returns-in-Some-clause-looks
returns-in-Some-clause-looks c =
    let edges : ℕ = length c.args.self.now.net.edges in
    let few : length (take c.min.result c.args.text.now) ≤ 63 = omega (arith, length-take c.min.result c.args.text.now, c.min.ensures) in
    let same : length c.go_to-shared.new.self.net.edges ≡ edges = ap (λ n. length n.edges) c.go_to-shared.ensures.net in
    omega (arith, mul-le-mul_right edges few, same, c.go_to-shared.ensures.looks, c.in-Some.ensures.looks)

pub returns-in-None-clause-looks : goal.returns-in-None-clause-looks
returns-in-None-clause-looks c =
    let edges : ℕ = length c.args.self.now.net.edges in
    let few : length (take c.min.result c.args.text.now) ≤ 63 = omega (arith, length-take c.min.result c.args.text.now, c.min.ensures) in
    let same : length c.go_to-shared.new.self.net.edges ≡ edges = ap (λ n. length n.edges) c.go_to-shared.ensures.net in
    omega (arith, mul-le-mul_right edges few, same, c.go_to-shared.ensures.looks, c.in-None.ensures.looks)
