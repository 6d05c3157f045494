-- Lists that are written place by place.
pub mod Fronts
