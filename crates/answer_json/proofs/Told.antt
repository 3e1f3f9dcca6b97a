-- How a line is told of which the bytes are kept.
use Rattle.std.proofs.Common.{◌≡◌, ℕ, cond, IsUtf8, List, Some, sym, ap}
use Rattle.std.specs.Str.{is_utf8}
use Rattle.std.proofs.lemmas.Str.{is_utf8-from_IsUtf8, IsUtf8-from_is_utf8}
use Rattle.std.proofs.lemmas.Bool.{false_from_ne_true}
use Rattle.answer_json.specs.Inputs.{as_text, as_octets, told_of}

pub told_text : (bytes : List ℕ) → IsUtf8 bytes → as_text bytes ≡ told_of (Some bytes)
told_text bytes h = sym (ap (λ b. cond b (as_text bytes) (as_octets bytes)) (is_utf8-from_IsUtf8 bytes h))

pub told_octets : (bytes : List ℕ) → ¬ (IsUtf8 bytes) → as_octets bytes ≡ told_of (Some bytes)
told_octets bytes h =
    sym (ap (λ b. cond b (as_text bytes) (as_octets bytes)) (false_from_ne_true (is_utf8 bytes) (λ e. h (IsUtf8-from_is_utf8 bytes e))))
