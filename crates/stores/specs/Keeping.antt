-- What a refusal leaves.
use Rattle.std.specs.Prelude.{Ok, Err, Result}

-- where the answer is a refusal, this holds; contracts say so that all is as it was
abbrev pub IfRefused : {A E : Type 0} → Result A E → Type 0 → Type 0
IfRefused (Ok a) same = Unit {0}
IfRefused (Err e) same = same
