-- A variable that may stand in a test or head is bound there by the strip's reckoning: document 01's words and the translation's list of bound
-- variables name the same.
use Rattle.std.specs.Prelude.{◌≡◌, ℕ, Bool, ◌||◌, List, []}
use Rattle.std.proofs.Common.{sym, subst}
use Rattle.std.proofs.Math.Path.{fun_ext}
use Rattle.meaning.specs.Basics.{mem}
use Rattle.meaning.specs.Facts.{Kind, most_in_rule, most_in_sweep}
use Rattle.meaning.specs.Rules.{Atom, Test, Sweep, Rule, occurs_in}
use Rattle.meaning.specs.Translation.{bound_by}
use Rattle.firings.specs.Variables.{occurs_bound}
use Rattle.meaning.specs.WellFormed.{GoodGroup, GoodSweep, GoodRule}

-- "A variable in a rule's test or head must occur in that rule's body; in a sweep's test or head, in the rule's body or that sweep's."
group_bound : {kinds : List Kind} {most : ℕ} {body heads : List Atom} {tests : List Test} (may bound : ℕ → Bool) → ((x : ℕ) → bound x ≡ may x)
    → GoodGroup kinds most may body tests heads → GoodGroup kinds most bound body tests heads
group_bound {kinds} {most} {body} {heads} {tests} may bound same = subst (λ b. GoodGroup kinds most b body tests heads) (fun_ext λ x. sym (same x))

pub rule_group : {kinds : List Kind} {rule : Rule} → GoodRule kinds rule
    → GoodGroup kinds most_in_rule (λ x. mem x (bound_by rule.body [])) rule.body rule.tests rule.heads
rule_group {rule} good = group_bound (λ x. occurs_in x rule.body) _ (λ x. occurs_bound x rule.body []) good.group

pub sweep_group : {kinds : List Kind} {rule_body : List Atom} {sweep : Sweep} → GoodSweep kinds rule_body sweep
    → GoodGroup kinds most_in_sweep (λ x. mem x (bound_by sweep.body (bound_by rule_body []))) sweep.body sweep.tests sweep.heads
sweep_group {rule_body} {sweep} good =
    group_bound (λ x. occurs_in x rule_body || occurs_in x sweep.body) _
    (λ x. rw (occurs_bound x sweep.body (bound_by rule_body []), occurs_bound x rule_body [])) good.group
