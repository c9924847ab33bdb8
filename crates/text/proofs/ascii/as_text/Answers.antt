-- `text::ascii::as_text` meets its contract: ASCII is UTF-8, so that there is no error.
use Rattle.std.proofs.Common.{Result, Ok, Err, MatchResult, IsOk, refl}
use Rattle.std.proofs.lemmas.Str.{IsUtf8-from_ascii}
use Rattle.text.proofs.ascii.as_text.Goals as goal

-- where an error would be a contradiction there is a value
no_error : {T E A : Type 0} (P : T → Type 0) (Q : E → Type 0) (r : Result T E) → MatchResult r P (λ e. (A → ⊥) × Q e) → A → IsOk r
no_error P Q (Ok x) cases a = refl
no_error P Q (Err e) cases a = absurd (cases.0 a)

pub unwrap-requires : goal.unwrap-requires
unwrap-requires c = no_error _ _ c.from_utf8.result c.from_utf8.ensures.cases (IsUtf8-from_ascii c.args.bytes.now c.requires)
