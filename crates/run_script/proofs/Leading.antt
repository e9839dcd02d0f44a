-- Answers made of the answers of parts.
use Rattle.std.proofs.Common.{◌≡◌, ℕ, List, Bool, refl, sym, ◌∙◌, ap, subst}
use Rattle.std.specs.Prelude.{Option, Some, None, Result, Ok, Err}
use Rattle.mission_model.specs.declared.plan.Item.{Item}
use Rattle.mission_model.specs.declared.plan.PlanType.{PlanType}
use Rattle.run_script.specs.declared.fault.ScriptFault.{ScriptFault}
use Rattle.run_script.specs.declared.fault.Stop.{Stop}
use Rattle.run_script.specs.declared.fault.Stop.TheVariants.{Memory, Fault}
use Rattle.run_script.specs.Statements.{Statement, Plan, Unclosed}
use Rattle.run_script.specs.Plans.{PlanStated, IsPlanFault, NamedStated, IsNamedFault, ReadsLines, kept_items}
use Rattle.run_script.specs.Gathered.{Gathered, after, Follows, Leads}

same_ok : (x y : Statement) → ◌≡◌ {A = Result Statement ScriptFault} (Ok x) (Ok y) → x ≡ y
same_ok x y e = cc

not_both : (f : ScriptFault) (x : Statement) → ◌≡◌ {A = Result Statement ScriptFault} (Err f) (Ok x) → ⊥
not_both f x e = cc

pub follows_leads : (old new : Gathered) (wanted : Result Statement ScriptFault) (result : Result Unit Stop) → Follows old wanted result new → Leads (λ s. wanted ≡ Ok s) (λ f. wanted ≡ Err f) old result new
follows_leads old new (Ok s) (Ok u) h = (s, refl, λ other e. sym (same_ok s other e), h)
follows_leads old new (Err f) (Ok u) h = absurd h
follows_leads old new (Ok s) (Err (Fault g)) h = absurd h
follows_leads old new (Err f) (Err (Fault g)) h = (ap (λ (x : ScriptFault). Err x) h, λ other e. not_both f other e)
follows_leads old new wanted (Err (Memory source)) h = tt

pub moved : (P Q : Statement → Type 0) (F G : ScriptFault → Type 0) (old new : Gathered) (result : Result Unit Stop) → ((s : Statement) → P s → Q s) → ((s : Statement) → Q s → P s) → ((f : ScriptFault) → F f → G f) → Leads P F old result new → Leads Q G old result new
moved P Q F G old new (Ok u) there back fault h = (h.0, there h.0 h.1, λ other q. h.2 other (back other q), h.3)
moved P Q F G old new (Err (Fault f)) there back fault h = (fault f h.0, λ other q. h.1 other (back other q))
moved P Q F G old new (Err (Memory source)) there back fault h = tt

pub leads_follow : (Comes : Statement → Type 0) (IsFault : ScriptFault → Type 0) (old new : Gathered) (stop : Stop) → Leads Comes IsFault old (Err stop) new → (other : Gathered) → Leads Comes IsFault old (Err stop) other
leads_follow Comes IsFault old new (Fault f) h other = h
leads_follow Comes IsFault old new (Memory source) h other = tt

module _ (home_first : Bool) (kind : PlanType) (name : List ℕ) (lines : List (List ℕ)) (items : List Item) (reads : ReadsLines lines items) where
  abbrev plan_is : List Item → Statement
  plan_is found = Plan (record { name = name; kind = kind; items = kept_items home_first found })

  never : (s : Statement) (f : ScriptFault) → ◌≡◌ {A = Result Statement ScriptFault} (Ok s) (Err f) → IsPlanFault (Some lines) f
  never s f e = absurd cc

  pub fill_leads : (old new : Gathered) (result : Result Unit Stop) (stored : List ℕ) (kept : List Item) → stored ≡ name → kept ≡ kept_items home_first items → Follows old (Ok (Plan (record { name = stored; kind = kind; items = kept }))) result new
      → Leads (PlanStated home_first kind name (Some lines)) (IsPlanFault (Some lines)) old result new
  fill_leads old new result stored kept same_name same_items follows =
      let plan : Plan (record { name = stored; kind = kind; items = kept }) ≡ plan_is items = ap (λ (n : List ℕ). Plan (record { name = n; kind = kind; items = kept })) same_name ∙ ap (λ (k : List Item). Plan (record { name = name; kind = kind; items = k })) same_items in
      let here = subst (λ (s : Statement). Follows old (Ok s) result new) plan follows in
      moved (λ s. Ok (plan_is items) ≡ Ok s) (PlanStated home_first kind name (Some lines)) (λ f. Ok (plan_is items) ≡ Err f) (IsPlanFault (Some lines)) old new result
      (λ s e. (items, reads.0, sym (same_ok (plan_is items) s e)))
      (λ s h. ap (λ (x : Statement). Ok x) (ap plan_is (sym (reads.1 h.0 h.1)) ∙ sym h.2))
      (λ f e. never (plan_is items) f e)
      (follows_leads old new (Ok (plan_is items)) result here)

module _ (home_first : Bool) (kind : PlanType) (named : Result (List ℕ) ScriptFault) (text : Option (List (List ℕ))) (old new : Gathered) (result : Result Unit Stop) where
  pub named_leads : (name : List ℕ) (found : Option (List (List ℕ))) → named ≡ Ok name → text ≡ found → Leads (PlanStated home_first kind name found) (IsPlanFault found) old result new → Leads (NamedStated home_first kind named text) (IsNamedFault named text) old result new
  named_leads name found e t h =
      subst (λ (n : Result (List ℕ) ScriptFault). Leads (NamedStated home_first kind n text) (IsNamedFault n text) old result new) (sym e)
      (subst (λ (x : Option (List (List ℕ))). Leads (NamedStated home_first kind (Ok name) x) (IsNamedFault (Ok name) x) old result new) (sym t) h)

pub open_leads : (home_first : Bool) (kind : PlanType) (name : List ℕ) (old new : Gathered) → new ≡ after old Unclosed → Leads (PlanStated home_first kind name None) (IsPlanFault None) old (Ok tt) new
open_leads home_first kind name old new h = (Unclosed, refl, λ other e. e, h)
