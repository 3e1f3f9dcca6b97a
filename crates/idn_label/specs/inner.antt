-- Words of inner functions and of private fields. No public contract cites them.
pub mod SimpleNames
pub mod FaultSteps
-- Names of which the labels are decoded.
pub mod DecodedNames
-- Numbers as characters, for the Bidi rule of a name.
pub mod BidiNames
-- The octets of a text.
pub mod Octets
