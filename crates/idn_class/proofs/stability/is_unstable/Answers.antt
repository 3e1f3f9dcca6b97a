use Rattle.std.proofs.Common.{◌≡◌, ◌++◌, ◌∷◌, [], not, ap, ◌∙◌, bytes_eq}
use Rattle.unicode_normalization.specs.Forms.{nfkc}
use Rattle.caseless.specs.Caseless.{default_case_fold}
use Rattle.idn_class.specs.Class.{is_unstable}
use Rattle.idn_class.proofs.stability.is_unstable.Goals as goal

pub returns : goal.returns
unfolding is_unstable
returns c =
    let point = c.args.c ∷ [] in
    let first : c.extend_nfkc.new.out.items ≡ c.new-composed.result.items ++ nfkc point = c.in_ok-extend_nfkc.ensures.ok in
    let composed : c.extend_nfkc.new.out.items ≡ nfkc point = first ∙ ap (λ l. l ++ nfkc point) c.new-composed.ensures.items in
    let folded = c.in_ok-folded.ensures ∙ ap default_case_fold (c.deref.ensures.value ∙ composed) in
    let second = c.in_ok-extend_nfkc-2.ensures.ok in
    let again : c.extend_nfkc-2.new.out.items ≡ nfkc (default_case_fold (nfkc point)) =
    second ∙ ap (λ l. l ++ nfkc c.deref-2.result.now) c.new-again.ensures.items ∙ ap nfkc (c.deref-2.ensures.value ∙ folded) in
    c.ne.ensures ∙ ap (λ l. not (bytes_eq l c.as_slice-2.result.now)) (c.as_slice.ensures.value ∙ again)
    ∙ ap (λ l. not (bytes_eq (nfkc (default_case_fold (nfkc point))) l)) c.as_slice-2.ensures
