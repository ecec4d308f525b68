pub mod SameLaws
pub mod RenewLaws
pub mod UpdateLaws
