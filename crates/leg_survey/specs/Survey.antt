-- The text of a survey: what is told of the first fence, and of each mission's legs over it.
use Rattle.std.specs.Prelude.{◌≡◌, ℕ, Bool, true, false, List, [], ◌∷◌, ◌++◌, length, filter, codes, decimal, Option, Some, None}
use Rattle.std.specs.List.{find, zip, flat_map}
use Rattle.mission_model.specs.declared.message.AckCode.{AckCode}
use Rattle.mission_model.specs.declared.plan.Item.{Item}
use Rattle.mission_model.specs.declared.plan.PlanType.TheVariants as kind
use Rattle.mission_model.specs.declared.schedule.NamedPlan.{NamedPlan}
use Rattle.mission_model.specs.PlanTypes.{is_kind}
use Rattle.record_text.specs.Messages.{code_number}
use Rattle.leg_fence.specs.declared.leg.LegSight.{LegSight}
use Rattle.leg_fence.specs.declared.leg.LegSight.TheVariants.{Clear, OutsideFrom, OutsideTo, Edge}
use Rattle.leg_fence.specs.Sight.{IsSight}
use Rattle.leg_survey.specs.Stops.{stops, legs_between, place_of}
use Rattle.leg_survey.specs.Judged.{IsJudged}

abbrev pub is_clear : LegSight → Bool
is_clear Clear = true
is_clear OutsideFrom = false
is_clear OutsideTo = false
is_clear (Edge edge) = false

-- the line of a leg that is not clear, by the seqs of its ends; none for one that is
abbrev pub sight_text : ℕ → ℕ → LegSight → List ℕ
sight_text from to Clear = []
sight_text from to OutsideFrom = codes "leg " ++ decimal from ++ codes " " ++ decimal to ++ codes " outside " ++ decimal from ++ codes "\n"
sight_text from to OutsideTo = codes "leg " ++ decimal from ++ codes " " ++ decimal to ++ codes " outside " ++ decimal to ++ codes "\n"
sight_text from to (Edge edge) = codes "leg " ++ decimal from ++ codes " " ++ decimal to ++ codes " edge " ++ decimal edge ++ codes "\n"

-- the line of a leg that was seen so
abbrev pub seen_text : ((ℕ × Item) × (ℕ × Item)) × LegSight → List ℕ
seen_text seen = sight_text seen.0.0.0 seen.0.1.0 seen.1

-- one sight a leg, each what is told of that leg over the fence
abbrev pub AreSights : List Item → List ((ℕ × Item) × (ℕ × Item)) → List LegSight → Type 0
AreSights fence [] [] = Unit {0}
AreSights fence [] (sight ∷ sights) = ⊥
AreSights fence (leg ∷ legs) [] = ⊥
AreSights fence (leg ∷ legs) (sight ∷ sights) = IsSight fence (place_of leg.0) (place_of leg.1) sight × AreSights fence legs sights

-- what is told of these legs over the fence: their lines, how many legs they are, and how many of them are clear
pub record TellsLegs (fence : List Item) (legs : List ((ℕ × Item) × (ℕ × Item))) (lines : List ℕ) (count clear : ℕ) : Type 0 where
  pub sights : List LegSight
  pub seen : AreSights fence legs sights
  pub told : lines ≡ flat_map seen_text (zip legs sights)
  pub all : count ≡ length legs
  pub free : clear ≡ length (filter is_clear sights)

-- the end of a line that tells where a plan is refused, and by which code
abbrev pub refusal_text : ℕ × AckCode → List ℕ
refusal_text at = codes " refused " ++ decimal at.0 ++ codes " " ++ decimal (code_number at.1) ++ codes "\n"

-- the line behind a mission's legs
abbrev pub count_text : List ℕ → ℕ → ℕ → List ℕ
count_text name count clear = codes "survey " ++ name ++ codes " legs " ++ decimal count ++ codes " clear " ++ decimal clear ++ codes "\n"

-- what is told of a mission that is so judged
abbrev pub TellsJudged : List Item → NamedPlan → Option (ℕ × AckCode) → List ℕ → Type 0
TellsJudged fence plan (Some at) text = text ≡ codes "survey " ++ plan.name ++ refusal_text at
TellsJudged fence plan None text = (lines : List ℕ) × (count : ℕ) × (clear : ℕ) × TellsLegs fence (legs_between (stops plan.items)) lines count clear × (text ≡ lines ++ count_text plan.name count clear)

-- what is told of a mission
abbrev pub TellsMission : List Item → NamedPlan → List ℕ → Type 0
TellsMission fence plan text = (judged : Option (ℕ × AckCode)) × IsJudged kind.Mission plan.items judged × TellsJudged fence plan judged text

-- what is told of each of these missions, one text behind the other
abbrev pub TellsMissions : List Item → List NamedPlan → List ℕ → Type 0
TellsMissions fence [] text = text ≡ []
TellsMissions fence (plan ∷ plans) text = (first : List ℕ) × (rest : List ℕ) × TellsMission fence plan first × TellsMissions fence plans rest × (text ≡ first ++ rest)

abbrev pub is_fence : NamedPlan → Bool
is_fence plan = is_kind plan.kind kind.Fence

abbrev pub is_mission : NamedPlan → Bool
is_mission plan = is_kind plan.kind kind.Mission

-- what is told where the first fence, if there is one, is so judged: nothing follows one that is refused
abbrev pub TellsFenceJudged : NamedPlan → Option (ℕ × AckCode) → List NamedPlan → List ℕ → Type 0
TellsFenceJudged plan (Some at) missions text = text ≡ codes "fence " ++ plan.name ++ refusal_text at
TellsFenceJudged plan None missions text = (told : List ℕ) × TellsMissions plan.items missions told × (text ≡ codes "fence " ++ plan.name ++ codes "\n" ++ told)

abbrev pub TellsFence : Option NamedPlan → List NamedPlan → List ℕ → Type 0
TellsFence None missions text = (told : List ℕ) × TellsMissions [] missions told × (text ≡ codes "fence none\n" ++ told)
TellsFence (Some plan) missions text = (judged : Option (ℕ × AckCode)) × IsJudged kind.Fence plan.items judged × TellsFenceJudged plan judged missions text

-- the new text is the old one with a text behind it of which this holds
abbrev pub IsAppended : (List ℕ → Type 0) → List ℕ → List ℕ → Type 0
IsAppended Tells old new = (text : List ℕ) × Tells text × (new ≡ old ++ text)

-- the text of the survey of a script's plans
abbrev pub IsSurvey : List NamedPlan → List ℕ → Type 0
IsSurvey plans text = TellsFence (find is_fence plans) (filter is_mission plans) text
