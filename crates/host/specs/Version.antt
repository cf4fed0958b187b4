-- Which interface the library has.
use Rattle.std.specs.Prelude.{ℕ}

-- The number of the interface that hosts in C and Rust see. It rises by one whenever a host that was built for the one before
-- could no longer call: where an exported signature, the form of a refusal's code, the figures' array or a lent buffer's
-- layout changes. include/margin_unit.h and bindings/rust/margin_unit.rs then take the new number too.
abbrev pub interface_version : ℕ
interface_version = 1
