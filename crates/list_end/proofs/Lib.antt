mod PassLaws
mod EndLaws
