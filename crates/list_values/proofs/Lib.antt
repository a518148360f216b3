pub mod SizeLaws
