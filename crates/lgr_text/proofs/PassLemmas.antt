-- What is wrong with a part is wrong with the whole.
use Rattle.std.proofs.Common.{◌≡◌, Bool, false, Option, None, Err}
use Rattle.lgr_text.specs.declared.element.Elements as held_elements
use Rattle.lgr_text.specs.declared.fault.ReadError.{ReadError}
use Rattle.lgr_text.specs.declared.fault.ReadError.TheVariants.{Wrong, Limit, Memory}
use Rattle.lgr_text.specs.Elements.{Content}
use Rattle.lgr_text.specs.inner.Reading.{BeginsWithText, Fails, IsNot, NextIs}

pub next-is-not : (is : Bool) (e : ReadError) (rest : held_elements.Elements) (d : Content) → (BeginsWithText d → is ≡ false) → NextIs rest d (Err e) → IsNot is e
next-is-not is (Wrong line) rest d f h = f h
next-is-not is (Limit line) rest d f h = absurd h
next-is-not is Memory rest d f h = tt

pub next-fails : {X : Type 0} (said : Option X) (e : ReadError) (rest : held_elements.Elements) (d : Content) → (BeginsWithText d → said ≡ None) → NextIs rest d (Err e) → Fails said e
next-fails said (Wrong line) rest d f h = f h
next-fails said (Limit line) rest d f h = absurd h
next-fails said Memory rest d f h = tt

pub fails-fails : {X Y : Type 0} (said : Option X) (whole : Option Y) (e : ReadError) → (said ≡ None → whole ≡ None) → Fails said e → Fails whole e
fails-fails said whole (Wrong line) f h = f h
fails-fails said whole (Limit line) f h = absurd h
fails-fails said whole Memory f h = tt

pub is-not-fails : {X : Type 0} (is : Bool) (said : Option X) (e : ReadError) → (is ≡ false → said ≡ None) → IsNot is e → Fails said e
is-not-fails is said (Wrong line) f h = f h
is-not-fails is said (Limit line) f h = absurd h
is-not-fails is said Memory f h = tt

pub is-not-is-not : (is whole : Bool) (e : ReadError) → (is ≡ false → whole ≡ false) → IsNot is e → IsNot whole e
is-not-is-not is whole (Wrong line) f h = f h
is-not-is-not is whole (Limit line) f h = absurd h
is-not-is-not is whole Memory f h = tt

pub fails-is-not : {X : Type 0} (said : Option X) (whole : Bool) (e : ReadError) → (said ≡ None → whole ≡ false) → Fails said e → IsNot whole e
fails-is-not said whole (Wrong line) f h = f h
fails-is-not said whole (Limit line) f h = absurd h
fails-is-not said whole Memory f h = tt
