pub mod UpdateLabels
