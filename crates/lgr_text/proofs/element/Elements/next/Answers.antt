use Rattle.std.proofs.Common.{◌≡◌, ◌∷◌, List, ℕ, sym, ap, ◌∙◌, subst}
use Rattle.xml_text.specs.Tokens
use Rattle.xml_text.specs.Tokens.{Token}
use Rattle.lgr_text.specs.Elements
use Rattle.lgr_text.specs.Elements.{Say}
use Rattle.lgr_text.specs.inner.Reading.{after_blanks, is_open}
use Rattle.lgr_text.proofs.ContentLemmas.{open-said, not-open, none-left, ends, ends-at, says-within, says-after, has-prefix, without-prefix}
use Rattle.lgr_text.proofs.element.Elements.next.Goals as goal

pub returns-in_default-clause-next : goal.returns-in_default-clause-next
returns-in_default-clause-next c = λ k say. none-left c.args.self.now.prefix.now c.without_blank_texts.result.now (after_blanks k) (c.in_default.ensures {u = tt}).cases (c.without_blank_texts.ensures.is c.args.self.now.prefix.now k say)

pub returns-in_default-opened-clause-next : goal.returns-in_default-opened-clause-next
returns-in_default-opened-clause-next c = λ k say.
    let p = c.args.self.now.prefix.now in
    let first = c.in-Some.first.now in
    let others = c.in-Some.others.now in
    let cut : c.without_blank_texts.result.now ≡ first ∷ others = (c.in-Some.ensures {u = tt}).cases.0 in
    let said : Say p (first ∷ others) (after_blanks k) = subst (λ (ts : List Token). Say p ts (after_blanks k)) cut (c.without_blank_texts.ensures.is p k say) in
    not-open p (after_blanks k) first others (sym (ap is_open c.said.ensures) ∙ c.in_default-opened.ensures {u = tt}) said

pub returns-in_default-strip_prefix-clause-next : goal.returns-in_default-strip_prefix-clause-next
returns-in_default-strip_prefix-clause-next c = λ k say.
    let p = c.args.self.now.prefix.now in
    let first = c.in-Some.first.now in
    let others = c.in-Some.others.now in
    let cut : c.without_blank_texts.result.now ≡ first ∷ others = (c.in-Some.ensures {u = tt}).cases.0 in
    let said : Say p (first ∷ others) (after_blanks k) = subst (λ (ts : List Token). Say p ts (after_blanks k)) cut (c.without_blank_texts.ensures.is p k say) in
    let full = c.in-Some-opened.full_name.now in
    let attributes = c.in-Some-opened.attributes.now in
    let tag : first.said ≡ Tokens.Open full attributes = sym c.said.ensures ∙ c.in-Some-opened.ensures {u = tt} in
    let open_ = open-said p (after_blanks k) first others full attributes tag said in
    absurd (has-prefix p full open_.local open_.named (c.in_default-strip_prefix.ensures {u = tt}).cases)

pub returns-in_default-inner_len-clause-next : goal.returns-in_default-inner_len-clause-next
returns-in_default-inner_len-clause-next c = λ k say.
    let p = c.args.self.now.prefix.now in
    let first = c.in-Some.first.now in
    let others = c.in-Some.others.now in
    let cut : c.without_blank_texts.result.now ≡ first ∷ others = (c.in-Some.ensures {u = tt}).cases.0 in
    let said : Say p (first ∷ others) (after_blanks k) = subst (λ (ts : List Token). Say p ts (after_blanks k)) cut (c.without_blank_texts.ensures.is p k say) in
    let full = c.in-Some-opened.full_name.now in
    let attributes = c.in-Some-opened.attributes.now in
    let tag : first.said ≡ Tokens.Open full attributes = sym c.said.ensures ∙ c.in-Some-opened.ensures {u = tt} in
    let open_ = open-said p (after_blanks k) first others full attributes tag said in
    absurd (ends p full attributes others (after_blanks k) open_ (sym c.inner_len.ensures.is ∙ c.in_default-inner_len.is))

pub returns-clause-next : goal.returns-clause-next
returns-clause-next c = λ k say.
    let p = c.args.self.now.prefix.now in
    let first = c.in-Some.first.now in
    let others = c.in-Some.others.now in
    let cut : c.without_blank_texts.result.now ≡ first ∷ others = (c.in-Some.ensures {u = tt}).cases.0 in
    let said : Say p (first ∷ others) (after_blanks k) = subst (λ (ts : List Token). Say p ts (after_blanks k)) cut (c.without_blank_texts.ensures.is p k say) in
    let full = c.in-Some-opened.full_name.now in
    let attributes = c.in-Some-opened.attributes.now in
    let tag : first.said ≡ Tokens.Open full attributes = sym c.said.ensures ∙ c.in-Some-opened.ensures {u = tt} in
    let open_ = open-said p (after_blanks k) first others full attributes tag said in
    let name : open_.local ≡ c.in-Some-strip_prefix.name.now = without-prefix p full open_.local c.in-Some-strip_prefix.name.now open_.named (c.in-Some-strip_prefix.ensures {u = tt}).cases.1 in
    let at = ends-at p full attributes others (after_blanks k) open_ c.in-Some-inner_len.len (c.in-Some-inner_len.ensures {u = tt}).is in
    record {
      within = open_.within;
      more = open_.more;
      is = open_.is ∙ ap (λ (n : List ℕ). Elements.Element n attributes open_.within open_.more) name;
      holds = subst (λ (ts : List Token). Say p ts open_.within) (sym c.split_at.ensures.front) (says-within p full attributes others (after_blanks k) open_ c.in-Some-inner_len.len at);
      follows = subst (λ (ts : List Token). Say p ts open_.more) (sym c.split_at-2.ensures.back) (says-after p full attributes others (after_blanks k) open_ c.in-Some-inner_len.len at);
    }
