pub mod Origins
pub mod Claim
