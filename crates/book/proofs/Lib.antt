-- Laws that the layer above cites.
pub mod definitions
pub mod refinement
