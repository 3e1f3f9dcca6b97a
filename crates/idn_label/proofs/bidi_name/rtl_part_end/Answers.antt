use Rattle.std.proofs.Common.{sym, ◌∙◌, arith}
use Rattle.idn_label.proofs.LabelParts.{part-nothing, rtl-digit, rtl-hyphen, rtl-letter, rtl-mark, rtl-meets, rtl-nothing}
use Rattle.idn_label.proofs.bidi_name.rtl_part_end.Goals as goal

pub parts-init : goal.parts-init
parts-init c = record { part = rtl-nothing c.args.name.now c.args.start c.requires; told = part-nothing c.args.name.now c.args.start c.requires }

pub loop-at-init : goal.loop-at-init
loop-at-init c = record { order = omega arith; told = rtl-letter c.args.name.now c.args.start c.parts.at c.parts.invariant.part (omega arith) (c.is_rtl_letter.ensures c.if-is_rtl_letter.true) }

pub loop-at-preserved : goal.loop-at-preserved
loop-at-preserved c =
    let order = c.loop-at.invariant.order in
    record { order = omega arith; told = rtl-mark c.args.name.now c.args.start c.loop-at.at c.loop-at.invariant.told (omega arith) (c.is_rtl_letter_or_mark.ensures c.if-is_rtl_letter_or_mark.true) }

pub parts-preserved-after-loop-at : goal.parts-preserved-after-loop-at
parts-preserved-after-loop-at c = record { part = c.loop-at.invariant.told.part; told = rtl-meets c.args.name.now c.args.start c.loop-at.at c.loop-at.invariant.told }

pub parts-preserved-else-is_rtl_letter_or_mark : goal.parts-preserved-else-is_rtl_letter_or_mark
parts-preserved-else-is_rtl_letter_or_mark c = record { part = c.loop-at.invariant.told.part; told = rtl-meets c.args.name.now c.args.start c.loop-at.at c.loop-at.invariant.told }

pub parts-preserved-then-is_ascii_digit : goal.parts-preserved-then-is_ascii_digit
parts-preserved-then-is_ascii_digit c =
    let within = c.parts.invariant.part.within in
    let last = rtl-digit c.args.name.now c.args.start c.parts.at c.parts.invariant.part c.if-at-name-2.false.0 (omega arith) (sym c.is_ascii_digit.ensures.value ∙ c.if-is_ascii_digit.true) in
    record { part = last.part; told = rtl-meets c.args.name.now c.args.start _ last }

pub parts-preserved : goal.parts-preserved
parts-preserved c =
    let within = c.parts.invariant.part.within in
    record {
      part = rtl-hyphen c.args.name.now c.args.start c.parts.at c.parts.invariant.part c.if-at-name-2.false.0 (omega arith) c.if-name-at-eq45.true;
      told = c.parts.invariant.told;
    }
