mod PlaceRows
