-- A code point that may not be registered has a place, and its class is the fault.
pub mod CausePlaces
-- The causes of the examples, computed.
pub mod ExampleLemmas
-- What is told of a fault is its cause and nothing else, and each fault of a label but for one has a cause.
pub mod CauseLaws
-- The same of what begins with "xn--".
pub mod ALabelLaws
-- The first label of a name that fails a test.
pub mod LabelLaws
-- A name label by label: whether each of them is decoded.
pub mod NameSteps
-- What causes of names are that are decoded.
pub mod NameLaws
-- What causes of names are that are looked up.
pub mod QueryLaws
-- What begins with "xn--" where a U-label is wanted.
pub mod CodedSteps
