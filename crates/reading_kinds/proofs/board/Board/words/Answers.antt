use Rattle.std.proofs.Common.{rules, ◌+◌, ◌*◌, ◌∙◌, subst, sym, ap, refl, length, get_or}
use Rattle.reading_kinds.specs.inner.Cells.{Tells, words_at}
use Rattle.reading_kinds.specs.inner.Cells.Mark.{Reached}
use Rattle.reading_kinds.proofs.WordsLemmas.{SubstitutionsSpell-last, SomeHas-last, SomeLacks-last}
use Rattle.reading_kinds.proofs.board.Board.words.Goals as goal

pub returns-then-not-reaches-clause-spelled : goal.returns-then-not-reaches-clause-spelled
returns-then-not-reaches-clause-spelled c =
    let last = SubstitutionsSpell-last c.args.substitutions.now c.requires.substitutions c.args.label.now c.args.self.now c.requires.right in (
      λ e. absurd (cc),
      λ h.
          let at : Tells c.args.self.now (length c.args.label.now) c.len.result Reached = subst (λ n. Tells c.args.self.now (length c.args.label.now) n Reached) (sym c.len.ensures) (last.1 h) in
          search (rules, c.if-not-reaches.ensures.1 at),
    )

pub returns-clause-spelled : goal.returns-clause-spelled
returns-clause-spelled c =
    let last = SubstitutionsSpell-last c.args.substitutions.now c.requires.substitutions c.args.label.now c.args.self.now c.requires.right in
    (λ e. last.0 (subst (λ n. Tells c.args.self.now (length c.args.label.now) n Reached) c.len.ensures (c.if-not-reaches.ensures.0 (search rules))), λ h. refl)

pub returns-clause-has : goal.returns-clause-has
returns-clause-has c k l =
    let at : Tells c.args.self.now (length c.args.label.now) (length c.args.substitutions.now) Reached = subst (λ n. Tells c.args.self.now (length c.args.label.now) n Reached) c.len.ensures (c.if-not-reaches.ensures.0 (search rules)) in
    SomeHas-last c.args.substitutions.now c.requires.substitutions c.args.label.now c.args.self.now c.requires.right at c.words_at.result k
    (c.words_at.ensures ∙ ap (λ n. words_at c.args.self.now (length c.args.label.now) n) c.len-2.ensures) l

pub returns-clause-lacks : goal.returns-clause-lacks
returns-clause-lacks c k l =
    let at : Tells c.args.self.now (length c.args.label.now) (length c.args.substitutions.now) Reached = subst (λ n. Tells c.args.self.now (length c.args.label.now) n Reached) c.len.ensures (c.if-not-reaches.ensures.0 (search rules)) in
    SomeLacks-last c.args.substitutions.now c.requires.substitutions c.args.label.now c.args.self.now c.requires.right at c.words_at.result k
    (c.words_at.ensures ∙ ap (λ n. words_at c.args.self.now (length c.args.label.now) n) c.len-2.ensures) l
