pub mod MissionItem
pub mod MachineState
pub mod Stepping
pub mod AtItem
pub mod ItemAlone
