use Rattle.std.proofs.Common.{rules, ◌≡◌, ◌++◌, ◌∷◌, [], min, take, length, ap, ◌∙◌}
use Rattle.std.proofs.lemmas.List.{take_min}
use Rattle.registered_labels.proofs.collisions.text_after.Goals as goal

pub returns : goal.returns
returns c =
    let shorter : c.min.result ≡ min 63 (length c.args.after.now) = search rules in
    let cut : take c.min.result c.args.after.now ≡ take 63 c.args.after.now = ap (λ n. take n c.args.after.now) shorter ∙ take_min 63 c.args.after.now in
    c.push.ensures.items
    ∙ ap (λ xs. xs ++ 0 ∷ []) (c.in-Ok.ensures.ok ∙ ap (λ xs. xs ++ take c.min.result c.args.after.now) c.new-text.ensures ∙ cut)
