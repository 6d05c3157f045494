-- `Lines`: lines in turn, each of 41 bytes. `Laying`: the written places are the places.
pub mod Lines
pub mod Laying
