pub mod ClashLaws
pub mod TreeLaws
pub mod LastLaws
pub mod CutLaws
pub mod OnceLaws
pub mod MadeLaws
