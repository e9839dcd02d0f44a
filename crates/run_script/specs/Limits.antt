-- What each script that is read keeps within.
use Rattle.std.specs.Prelude.{◌≡◌, ◌≤◌, length, All, Option, Some, None, ⊤}
use Rattle.mission_model.specs.declared.limits.TheConstants.{MAX_PLANS, MAX_BOOTS}
use Rattle.mission_model.specs.declared.schedule.CutSpec.{CutSpec}
use Rattle.mission_model.specs.declared.schedule.BootScript.{BootScript}
use Rattle.mission_model.specs.declared.schedule.Script.{Script}
use Rattle.mission_model.specs.BootScripts.{BootInLimits}

-- a cut is inside a call, which are numbered from 1
abbrev pub IsCut : Option CutSpec → Type 0
IsCut None = ⊤
IsCut (Some cut) = 1 ≤ cut.call

-- a boot of a script: in limits, with the script's parameters and home
pub record IsBootOf (script : Script) (boot : BootScript) : Type 0 where
  pub limits : BootInLimits boot
  pub cut : IsCut boot.cut
  pub params : boot.params ≡ script.params
  pub home : boot.home ≡ script.home

-- a script in limits
pub record ScriptInLimits (script : Script) : Type 0 where
  pub plans : length script.plans ≤ MAX_PLANS
  pub some : 1 ≤ length script.boots
  pub few : length script.boots ≤ MAX_BOOTS
  pub boots : All (IsBootOf script) script.boots
