-- `scenarios::scenario::check_vertex` meets its contract. Its own prices decide.
use mathlib.Core.Bool.{Bool}
use mathlib.Core.Path.{ap, ◌∙◌}
use Rattle.numbers.specs.Findings.{found, judged}
use Rattle.numbers.specs.declared.error.Refusal.{Refusal}
use Rattle.numbers.specs.declared.error.Refusal.TheVariants.{Return}
use Rattle.scenarios.specs.Check.{returns_code}
use Rattle.scenarios.proofs.Vertices.{vertex_series}
use Rattle.std.specs.Prelude.{ℕ, Result, Ok, Err, MatchResult, IsErrAnd, is_ok, if◌then◌else◌}
use Rattle.std.proofs.Common.{◌≡◌, rules}
use Rattle.scenarios.proofs.scenario.check_vertex.Goals as goal

-- what an error is turned into is the refusal
turned : {E : Type 0} (r : Result Unit E) (s : Result Unit Refusal) (v : ℕ) (P : E → Refusal → Type 0) → MatchResult r (λ x. s ≡ Ok x) (λ e. IsErrAnd s (P e)) → ((e : E) (y : Refusal) → P e y → y ≡ Return v) → found s ≡ judged (if is_ok r then 0 else 21) v
turned (Ok x) s v P is so = ap found is
turned (Err e) (Ok _) v P is so = elim is [ ]
turned (Err e) (Err y) v P is so = ap (λ (a : Refusal). found (Err a)) (so e y is)

pub returns : goal.returns
unfolding returns_code
returns c =
    turned c.check.result c.map_err.result c.args.v _ c.map_err.ensures.cases (λ e y h. search (rules, h))
    ∙ ap (λ (good : Bool). judged (if good then 0 else 21) c.args.v)
    (c.check.ensures ∙ vertex_series _ c.args.m.now.sound _ c.requires _ _ c.of.ensures.parameters c.of.ensures.path)
