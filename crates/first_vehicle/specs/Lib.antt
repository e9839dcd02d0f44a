pub mod PlanState
pub mod VehicleState
pub mod VehicleStep
pub mod VehicleRun
pub mod OneVehicle
pub mod Kept
pub mod CheckState
