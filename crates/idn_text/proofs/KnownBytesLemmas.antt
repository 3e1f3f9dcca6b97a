-- How what is known of a reader or a writer goes on over several calls.
use Rattle.std.proofs.Common.{◌≡◌, ℕ, zero, suc, false, List, [], ◌∷◌, Ok, ◌++◌, Option, Some, None, take, drop, refl, sym, ap, ◌∙◌, append_assoc, take-append-drop}
use Rattle.std.specs.Io.KnownBytes.{Appends, Consumes, Keeps, prepend_known}
use Rattle.idn_text.specs.declared.device.DeviceFault.{DeviceFault}
use Rattle.idn_text.specs.Devices.{put_fails}

-- two texts, one after the other
pub appends_join : (a b c : Option (List ℕ)) (f g : List ℕ) → Appends a b f → Appends b c g → Appends a c (f ++ g)
appends_join None b c f g first second = tt
appends_join (Some xs) None c f g first second = absurd first
appends_join (Some xs) (Some ys) None f g first second = absurd second
appends_join (Some xs) (Some ys) (Some zs) f g first second = second ∙ ap (λ l. l ++ g) first ∙ append_assoc xs f g

-- a call that took a byte did not fail
pub some_taken_is_no_fault : (count : ℕ) (text : List ℕ) → (count ≡ 0 → ⊥) → put_fails {E = DeviceFault} (Ok count) text ≡ false
some_taken_is_no_fault zero text some = absurd (some refl)
some_taken_is_no_fault (suc count) [] some = refl
some_taken_is_no_fault (suc count) (byte ∷ bytes) some = refl

-- two fronts, one after the other
pub consumes_join : (a b c : Option (List ℕ)) (f g : List ℕ) → Consumes a b f → Consumes b c g → Consumes a c (f ++ g)
consumes_join None b c f g first second = tt
consumes_join (Some xs) None c f g first second = absurd first
consumes_join (Some xs) (Some ys) None f g first second = absurd second
consumes_join (Some xs) (Some ys) (Some zs) f g first second = first ∙ ap (λ l. f ++ l) second ∙ sym (append_assoc f g zs)

-- what was consumed stays so where the rest is kept
pub consumes_kept : (a b c : Option (List ℕ)) (f : List ℕ) → Consumes a b f → Keeps b c → Consumes a c f
consumes_kept None b c f first same = tt
consumes_kept (Some xs) None c f first same = absurd first
consumes_kept (Some xs) (Some ys) None f first same = absurd same
consumes_kept (Some xs) (Some ys) (Some zs) f first same = first ∙ ap (λ l. f ++ l) (sym same)

-- nothing was consumed
pub consumes_nothing : (a : Option (List ℕ)) → Consumes a a []
consumes_nothing None = tt
consumes_nothing (Some xs) = refl

-- the first n of the bytes that stand before the rest
pub consumes_front : (rest : Option (List ℕ)) (bytes : List ℕ) (n : ℕ) → Consumes (prepend_known bytes rest) (prepend_known (drop n bytes) rest) (take n bytes)
consumes_front None bytes n = tt
consumes_front (Some xs) bytes n = ap (λ l. l ++ xs) (sym (take-append-drop n bytes)) ∙ append_assoc (take n bytes) (drop n bytes) xs

-- what was read and is held is still left
pub keeps_read : (a b : Option (List ℕ)) (held more : List ℕ) → Consumes a b more → Keeps (prepend_known held a) (prepend_known (held ++ more) b)
keeps_read None b held more taken = tt
keeps_read (Some xs) None held more taken = absurd taken
keeps_read (Some xs) (Some ys) held more taken = append_assoc held more ys ∙ ap (λ l. held ++ l) (sym taken)
