-- `Columns`: the cases of the two columns, and a column written place by place.
pub mod Columns
