-- What a device stands on, and when a call of a reader or a writer failed.
use Rattle.std.specs.Prelude.{ℕ, zero, suc, Bool, true, false, List, [], ◌∷◌, Option, Result, Ok, Err}
use Rattle.std.specs.Option.{option_map}
use Rattle.idn_text.specs.declared.device.Device.{Device}

-- what the device stands on
abbrev pub inner_of : {T : Type 0} → Device T → T
inner_of device = device.inner

-- whether the last call of the device failed
abbrev pub has_failed_of : {T : Type 0} → Device T → Bool
has_failed_of device = device.has_failed

-- a read failed where it gave an error
abbrev pub get_fails : {E : Type 0} → Result ℕ E → Bool
get_fails (Ok count) = false
get_fails (Err error) = true

-- a write failed where it gave an error, or took no byte of a text that is not empty
abbrev pub put_fails : {E : Type 0} → Result ℕ E → List ℕ → Bool
put_fails (Err error) text = true
put_fails (Ok count) [] = false
put_fails (Ok zero) (byte ∷ bytes) = true
put_fails (Ok (suc count)) (byte ∷ bytes) = false

-- how many calls have failed after one more, which failed or did not
abbrev pub faults_after : Bool → Option ℕ → Option ℕ
faults_after true faults = option_map suc faults
faults_after false faults = faults
