-- Laws of the definitions, for the layers above. Nothing here needs to be believed: it is proved.
pub mod Range
