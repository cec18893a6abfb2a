pub mod PassLaws
pub mod PlaceLaws
pub mod HeadLaws
pub mod FieldPasses
pub mod EndPasses
pub mod AlongLaws
pub mod LoopLaws
