pub mod Tendency
