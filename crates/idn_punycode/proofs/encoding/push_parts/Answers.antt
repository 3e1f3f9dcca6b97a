use Rattle.std.proofs.Common.{◌≡◌, ◌-◌, ◌++◌, ◌∷◌, [], List, ℕ, length, length-append, append_assoc, append-nil, ap, sym, ◌∙◌, refl, arith}
use Rattle.idna.specs.Punycode.{below, encode}
use Rattle.idn_punycode.proofs.ResultLemmas.{OnErr-always}
use Rattle.idn_punycode.proofs.EncodingSteps.{Encodes-basic, Encodes-no_basic, encode-longer, encode-basic_le}
use Rattle.idn_punycode.proofs.KeySteps.{Chosen-length}
use Rattle.idn_punycode.proofs.OrderSteps.{HasPlaces-none, Turns-start, Turns-end, Turns-chosen, Turns-next, Turns-more}
use Rattle.idn_punycode.proofs.encoding.push_parts.Goals as goal
use Rattle.idn_punycode.proofs.encoding.push_parts.Goals.{then-places-ne0+in_ok-push_basic, else-places-ne0, then-basic-gt0+in_ok-push_ascii, else-basic-gt0}

-- what is written after a text, and then more
Appends-more : (before code more : List ℕ) {text after : List ℕ} → text ≡ before ++ code → after ≡ text ++ more → after ≡ before ++ (code ++ more)
Appends-more before code more is then = then ∙ ap (λ xs. xs ++ more) is ∙ append_assoc before code more

pub returns-in_err-push_basic-clause-too_long : goal.returns-in_err-push_basic-clause-too_long
returns-in_err-push_basic-clause-too_long g c =
    let before = c.args.text.now.bytes in
    let basic = below 128 (g.U.Unit.codes c.args.label.now) in
    OnErr-always c.from_residual.result
    (omega (arith, c.in_err-push_basic.ensures.too_long, encode-basic_le (g.U.Unit.codes c.args.label.now), length-append before basic, length-append before (encode (g.U.Unit.codes c.args.label.now))))

pub returns-in_err-push_ascii-clause-too_long : goal.returns-in_err-push_ascii-clause-too_long
returns-in_err-push_ascii-clause-too_long g c =
    let before = c.args.text.now.bytes in
    let label = g.U.Unit.codes c.args.label.now in
    let text : c.if-places-ne0.longer.bytes ≡ before ++ below 128 label =
    elim c.if-places-ne0.branch [
      | then-places-ne0+in_ok-push_basic w ↦ ap (λ t. t.bytes) w.longer-is ∙ w.in_ok-push_basic.ensures.ok
      | else-places-ne0 w ↦
          ap (λ t. t.bytes) w.longer-is
          ∙ sym (ap (λ xs. before ++ xs) (HasPlaces-none c.requires.places (sym c.places.ensures ∙ w.if-places-ne0.false)) ∙ append-nil before)
    ] in
    let sizes = ap length text ∙ length-append before (below 128 label) in
    let longer = encode-longer label _ refl (omega (arith, c.len.ensures.value, c.len-2.ensures.value)) in
    OnErr-always c.from_residual-in_err-push_ascii.result
    (omega (arith, c.in_err-push_ascii.ensures.full, length-append before (encode label)))

pub loop-key-init : goal.loop-key-init
loop-key-init g c =
    let before = c.args.text.now.bytes in
    let label = g.U.Unit.codes c.args.label.now in
    let code = below 128 label in
    let text : c.if-places-ne0.longer.bytes ≡ before ++ code =
    elim c.if-places-ne0.branch [
      | then-places-ne0+in_ok-push_basic w ↦ ap (λ t. t.bytes) w.longer-is ∙ w.in_ok-push_basic.ensures.ok
      | else-places-ne0 w ↦
          ap (λ t. t.bytes) w.longer-is
          ∙ sym (ap (λ xs. before ++ xs) (HasPlaces-none c.requires.places (sym c.places.ensures ∙ w.if-places-ne0.false)) ∙ append-nil before)
    ] in
    let sizes = ap length text ∙ length-append before code in
    let basic : c.len.result - c.len-2.result ≡ length code = omega (arith, c.len.ensures.value, c.len-2.ensures.value) in
    elim c.if-basic-gt0.branch [
      | then-basic-gt0+in_ok-push_ascii w ↦
          rw (c.after_basic-progress.ensures, c.keys-key-items.ensures, basic) (
            code ++ 45 ∷ [],
            ap (λ t. t.bytes) w.longer-is ∙ w.in_ok-push_ascii.ensures.ok ∙ ap (λ xs. xs ++ 45 ∷ []) text ∙ append_assoc before code (45 ∷ []),
            Turns-start (Encodes-basic _ _ refl (omega (arith, w.if-basic-gt0.true))) c.requires.short c.requires.keys,
            c.requires.keys,
            omega arith,
            omega (arith, ap (λ t. length t.bytes) w.longer-is, w.in_ok-push_ascii.ensures.short),
          )
      | else-basic-gt0 w ↦
          rw (c.after_basic-progress.ensures, c.keys-key-items.ensures, basic) (
            code,
            ap (λ t. t.bytes) w.longer-is ∙ text,
            Turns-start (Encodes-no_basic _ _ refl (omega (arith, w.if-basic-gt0.false))) c.requires.short c.requires.keys,
            c.requires.keys,
            omega arith,
            omega (arith, ap (λ t. length t.bytes) w.longer-is, c.len.ensures.value, c.len.ensures.fits),
          )
    ]

pub write_key-requires : goal.write_key-requires
write_key-requires g c =
    let i = c.loop-key.invariant in Turns-next i.2 c.requires.short i.3 c.loop-key-test.true _ refl i.4

pub returns-in_err-progress-clause-too_long : goal.returns-in_err-progress-clause-too_long
returns-in_err-progress-clause-too_long g c =
    let i = c.loop-key.invariant in
    let t = Turns-chosen i.2 c.requires.short i.3 c.loop-key-test.true _ refl in
    OnErr-always c.from_residual-in_err-progress.result
    (omega (arith, c.in_err-progress.ensures.full, Chosen-length t i.4, ap length i.1, length-append {A = ℕ}))

pub loop-key-preserved : goal.loop-key-preserved
loop-key-preserved g c =
    let i = c.loop-key.invariant in
    rw c.in_ok-progress.ensures.after (
      _,
      Appends-more _ _ _ i.1 c.in_ok-progress.ensures.ok,
      Turns-more i.2 c.requires.short i.3 c.loop-key-test.true _ refl i.4,
      i.3,
      omega arith,
      c.in_ok-progress.ensures.short,
    )

pub returns-clause-ok : goal.returns-clause-ok
returns-clause-ok g c =
    let i = c.loop-key.invariant in
    i.1 ∙ ap (λ xs. c.args.text.now.bytes ++ xs) (Turns-end i.2 c.requires.short c.loop-key-test.false)
